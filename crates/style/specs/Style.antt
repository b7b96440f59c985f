-- The five styles by the numbers that an event's bytes have for them (E1).
use Rattle.std.specs.Prelude.{ℕ, Bool, cond, eqb, leb, Option, Some, None}
use Rattle.style.specs.declared.Style.{Style}
use Rattle.style.specs.declared.Style.TheVariants.{Plain, SingleQuoted, DoubleQuoted, Literal, Folded}

abbrev pub plain : ℕ
plain = 0

abbrev pub single_quoted : ℕ
single_quoted = 1

abbrev pub double_quoted : ℕ
double_quoted = 2

abbrev pub literal : ℕ
literal = 3

abbrev pub folded : ℕ
folded = 4

abbrev pub style_number : Style → ℕ
style_number Plain = plain
style_number SingleQuoted = single_quoted
style_number DoubleQuoted = double_quoted
style_number Literal = literal
style_number Folded = folded

-- the style of a number, if it has one
abbrev pub style_numbered : ℕ → Option Style
style_numbered n =
    cond (eqb n plain) (Some Plain)
    (cond (eqb n single_quoted) (Some SingleQuoted)
    (cond (eqb n double_quoted) (Some DoubleQuoted)
    (cond (eqb n literal) (Some Literal)
    (cond (eqb n folded) (Some Folded)
    None))))

-- the style by which the rules take any number: a block from 3 on
abbrev pub style_of : ℕ → Style
style_of n =
    cond (eqb n plain) Plain
    (cond (eqb n single_quoted) SingleQuoted
    (cond (eqb n double_quoted) DoubleQuoted
    (cond (eqb n literal) Literal
    Folded)))

-- literal and folded
abbrev pub is_block : ℕ → Bool
is_block style = leb literal style
