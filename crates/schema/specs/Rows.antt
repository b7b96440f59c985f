-- The expressions of the core schema's table, YAML 1.2.2 section 10.3.2 (P2); their order is that of `table` in
-- specs/Standard.antt. The booleans' row is the choice of its two halves, since the value tells them apart.
use Rattle.std.specs.Prelude.{[], ◌∷◌}
use Rattle.schema.specs.Regex.{Regex, empty, range, seq, alt, star, opt, some, word, any_of}

-- null | Null | NULL | ~
abbrev pub null_word : Regex
null_word = any_of ("null" ∷ "Null" ∷ "NULL" ∷ "~" ∷ [])

-- nothing at all
abbrev pub nothing : Regex
nothing = empty

-- true | True | TRUE, and false | False | FALSE
abbrev pub true_word : Regex
true_word = any_of ("true" ∷ "True" ∷ "TRUE" ∷ [])

abbrev pub false_word : Regex
false_word = any_of ("false" ∷ "False" ∷ "FALSE" ∷ [])

abbrev pub boolean : Regex
boolean = alt true_word false_word

-- [-+]
abbrev pub sign : Regex
sign = alt (word "-") (word "+")

-- [0-9]
abbrev pub digit : Regex
digit = range 48 57

-- [0-7]
abbrev pub octal_digit : Regex
octal_digit = range 48 55

-- [0-9a-fA-F]
abbrev pub hex_digit : Regex
hex_digit = alt digit (alt (range 97 102) (range 65 70))

-- [-+]? [0-9]+
abbrev pub decimal : Regex
decimal = seq (opt sign) (some digit)

-- 0o [0-7]+
abbrev pub octal : Regex
octal = seq (word "0o") (some octal_digit)

-- 0x [0-9a-fA-F]+
abbrev pub hexadecimal : Regex
hexadecimal = seq (word "0x") (some hex_digit)

-- \. [0-9]+ | [0-9]+ ( \. [0-9]* )?
abbrev pub mantissa : Regex
mantissa = alt (seq (word ".") (some digit)) (seq (some digit) (opt (seq (word ".") (star digit))))

-- [eE] [-+]? [0-9]+
abbrev pub exponent : Regex
exponent = seq (alt (word "e") (word "E")) (seq (opt sign) (some digit))

-- [-+]? ( \. [0-9]+ | [0-9]+ ( \. [0-9]* )? ) ( [eE] [-+]? [0-9]+ )?
abbrev pub number : Regex
number = seq (opt sign) (seq mantissa (opt exponent))

-- [-+]? ( \.inf | \.Inf | \.INF )
abbrev pub infinity : Regex
infinity = seq (opt sign) (any_of (".inf" ∷ ".Inf" ∷ ".INF" ∷ []))

-- \.nan | \.NaN | \.NAN
abbrev pub not_a_number : Regex
not_a_number = any_of (".nan" ∷ ".NaN" ∷ ".NAN" ∷ [])
