-- Worked examples of the definitions, each by computation: K2 to K6 of document 01, those of the standard's section 10.3.2,
-- the integers beyond 64 signed bits, tags, and record numbers.
use Rattle.std.specs.Prelude.{ℕ, ◌≡◌, refl, true, false, [], ◌∷◌, map, pos, negsuc, Some, None, option_map}
use Prim.Native.String.{String}
use Rattle.utf8.specs.Ascii.{bytes, same_bytes}
use Rattle.schema.specs.Matcher.{nullable, derivative, accepts}
use Rattle.schema.specs.Integer.{ten, eight, sixteen, digit_value, positional, signed_value, in_range, held}
use Rattle.schema.specs.Standard.{Meaning, integer, standard}
use Rattle.schema.specs.CoreSchema.{table, first_match, core_schema}
use Rattle.schema.specs.Kinds.{read_as}
use Rattle.schema.specs.Tag.{standard_tag_suffix, tagged_as, tagged_schema, untagged, resolve_scalar}
use Rattle.schema.specs.Record.{number_of, kind_number, kind_numbered, payload_of, two_numbers}
use Rattle.schema.specs.declared.record.Kind.TheVariants as kind
use Rattle.schema.specs.declared.plain.Resolved.{Resolved}
use Rattle.schema.specs.declared.plain.Resolved.TheVariants.{Null, Boolean, Integer, Real, Str, BadValue}

-- the texts that are resolved so, untagged and plain
abbrev plain : String → Resolved
plain w = core_schema (bytes w)

-- K2 to K6
pub record Scalars : Type 0 where
  pub k2 : plain "9223372036854775807" ≡ Integer (pos 9223372036854775807)
  pub k3 : plain "9223372036854775808" ≡ Real
  pub k4 : plain "-9223372036854775808" ≡ Integer (negsuc 9223372036854775807)
  pub k5 : plain "0xFFFFFFFFFFFFFFFF" ≡ Str
  pub k6_nan : plain "+.nan" ≡ Str
  pub k6_inf : plain "+.inf" ≡ Real
  pub octal_17 : plain "0o17" ≡ Integer (pos 15)
  pub minus_zero : plain "-0" ≡ Integer (pos 0)
  pub leading_zeros : plain "007" ≡ Integer (pos 7)

-- the standard's examples, and their neighbours
pub record StandardTexts : Type 0 where
  pub tilde : plain "~" ≡ Null
  pub nothing : core_schema [] ≡ Null
  pub null_cased : plain "nULL" ≡ Str
  pub true_cased : plain "True" ≡ Boolean true
  pub false_cased : plain "FALSE" ≡ Boolean false
  pub yes : plain "yes" ≡ Str
  pub point_last : plain "0." ≡ Real
  pub minus_zero_real : plain "-0.0" ≡ Real
  pub point_first : plain ".5" ≡ Real
  pub exponent : plain "+12e03" ≡ Real
  pub exponent_signed : plain "-2E+05" ≡ Real
  pub exponent_cut : plain "1e" ≡ Str
  pub point_alone : plain "." ≡ Str
  pub octal_7 : plain "0o7" ≡ Integer (pos 7)
  pub octal_8 : plain "0o8" ≡ Str
  pub hex_3_a : plain "0x3A" ≡ Integer (pos 58)
  pub hex_upper : plain "0X3A" ≡ Str
  pub hex_signed : plain "-0x3A" ≡ Str
  pub inf : plain ".inf" ≡ Real
  pub inf_minus : plain "-.Inf" ≡ Real
  pub inf_plus : plain "+.INF" ≡ Real
  pub inf_cased : plain ".iNF" ≡ Str
  pub nan : plain ".NAN" ≡ Real
  pub rust_inf : plain "inf" ≡ Str

-- what the standard reads of an integer just beyond the range, and what the schema makes of it
abbrev meaning : String → Meaning
meaning w = standard (bytes w)

pub record Beyond : Type 0 where
  pub decimal_read : meaning "9223372036854775808" ≡ integer ten (pos 9223372036854775808)
  pub octal_read : meaning "0o1000000000000000000000" ≡ integer eight (pos 9223372036854775808)
  pub hexadecimal_read : meaning "0x8000000000000000" ≡ integer sixteen (pos 9223372036854775808)
  pub decimal_below : plain "-9223372036854775809" ≡ Real
  pub octal : plain "0o1000000000000000000000" ≡ Str
  pub octal_last : plain "0o777777777777777777777" ≡ Integer (pos 9223372036854775807)
  pub hexadecimal : plain "0x8000000000000000" ≡ Str
  pub hexadecimal_last : plain "0x7fffffffffffffff" ≡ Integer (pos 9223372036854775807)

-- a scalar of a style, with the handle and the suffix of its tag
abbrev tagged : String → ℕ → String → String → Resolved
tagged w style handle suffix = resolve_scalar (bytes w) style (Some (bytes handle, bytes suffix))

pub record Tagged : Type 0 where
  pub int : tagged "5" 0 "tag:yaml.org,2002:" "int" ≡ Integer (pos 5)
  pub int_quoted : tagged "5" 2 "tag:yaml.org,2002:" "int" ≡ Integer (pos 5)
  pub int_verbatim : tagged "5" 0 "" "tag:yaml.org,2002:int" ≡ Integer (pos 5)
  pub int_beyond : tagged "9223372036854775808" 0 "tag:yaml.org,2002:" "int" ≡ BadValue
  pub int_misfit : tagged "five" 0 "tag:yaml.org,2002:" "int" ≡ BadValue
  pub float_of_digits : tagged "5" 0 "tag:yaml.org,2002:" "float" ≡ Real
  pub str : tagged "5" 0 "tag:yaml.org,2002:" "str" ≡ Str
  pub bool : tagged "True" 1 "tag:yaml.org,2002:" "bool" ≡ Boolean true
  pub bool_misfit : tagged "yes" 0 "tag:yaml.org,2002:" "bool" ≡ BadValue
  pub null : tagged "" 2 "tag:yaml.org,2002:" "null" ≡ Null
  pub other_name : tagged "5" 0 "tag:yaml.org,2002:" "binary" ≡ Str
  pub other_tag : tagged "5" 0 "!" "int" ≡ Integer (pos 5)
  pub other_tag_quoted : tagged "5" 1 "!" "int" ≡ Str

-- the kinds' numbers, as 01 lists them; the payload numbers of -1, of the lowest integer, and of a string
pub record Numbers : Type 0 where
  pub kinds : map kind_number (Null ∷ Boolean true ∷ Integer (pos 0) ∷ Real ∷ Str ∷ BadValue ∷ []) ≡ 1 ∷ 2 ∷ 3 ∷ 4 ∷ 5 ∷ 6 ∷ []
  pub collections : map number_of (kind.Array ∷ kind.Hash ∷ []) ≡ 7 ∷ 8 ∷ []
  pub numbered : map (option_map number_of) (map kind_numbered (1 ∷ 2 ∷ 3 ∷ 4 ∷ 5 ∷ 6 ∷ 7 ∷ 8 ∷ [])) ≡ map Some (1 ∷ 2 ∷ 3 ∷ 4 ∷ 5 ∷ 6 ∷ 7 ∷ 8 ∷ [])
  pub unnumbered : map kind_numbered (0 ∷ 9 ∷ []) ≡ None ∷ None ∷ []
  pub minus_one : payload_of (Integer (negsuc 0)) 7 2 ≡ two_numbers 4294967295 4294967295
  pub lowest : payload_of (Integer (negsuc 9223372036854775807)) 7 20 ≡ two_numbers 2147483648 0
  pub string : payload_of Str 7 2 ≡ two_numbers 7 2

pub record Examples : Type 0 where
  pub k2_to_k6 : Scalars
  pub standard_texts : StandardTexts
  pub beyond_range : Beyond
  pub tags : Tagged
  pub numbers : Numbers

pub examples : Examples
unfolding resolve_scalar standard_tag_suffix tagged_schema tagged_as read_as untagged same_bytes core_schema table first_match accepts derivative nullable held in_range signed_value positional digit_value
examples =
    record {
      k2_to_k6 =
          record {
            k2 = refl;
            k3 = refl;
            k4 = refl;
            k5 = refl;
            k6_nan = refl;
            k6_inf = refl;
            octal_17 = refl;
            minus_zero = refl;
            leading_zeros = refl;
          };
      standard_texts =
          record {
            tilde = refl;
            nothing = refl;
            null_cased = refl;
            true_cased = refl;
            false_cased = refl;
            yes = refl;
            point_last = refl;
            minus_zero_real = refl;
            point_first = refl;
            exponent = refl;
            exponent_signed = refl;
            exponent_cut = refl;
            point_alone = refl;
            octal_7 = refl;
            octal_8 = refl;
            hex_3_a = refl;
            hex_upper = refl;
            hex_signed = refl;
            inf = refl;
            inf_minus = refl;
            inf_plus = refl;
            inf_cased = refl;
            nan = refl;
            rust_inf = refl;
          };
      beyond_range =
          record {
            decimal_read = refl;
            octal_read = refl;
            hexadecimal_read = refl;
            decimal_below = refl;
            octal = refl;
            octal_last = refl;
            hexadecimal = refl;
            hexadecimal_last = refl;
          };
      tags =
          record {
            int = refl;
            int_quoted = refl;
            int_verbatim = refl;
            int_beyond = refl;
            int_misfit = refl;
            float_of_digits = refl;
            str = refl;
            bool = refl;
            bool_misfit = refl;
            null = refl;
            other_name = refl;
            other_tag = refl;
            other_tag_quoted = refl;
          };
      numbers =
          record {
            kinds = refl;
            collections = refl;
            numbered = refl;
            unnumbered = refl;
            minus_one = refl;
            lowest = refl;
            string = refl;
          };
    }
