-- Tagged scalars, and the whole of a scalar's resolution (S10). A tag is a handle and a suffix, each a list of bytes.
use Rattle.std.specs.Prelude.{ℕ, Bool, ◌&&◌, cond, List, [], eqb, length, take, drop, Option, Some, None}
use Rattle.utf8.specs.Ascii.{bytes, same_bytes}
use Rattle.schema.specs.Integer.{held}
use Rattle.schema.specs.Standard.{Meaning, null_value, truth, integer, real, string}
use Rattle.schema.specs.CoreSchema.{integer_or, core_schema}
use Rattle.schema.specs.Kinds.{read_as}
use Rattle.schema.specs.declared.plain.Resolved.{Resolved}
use Rattle.schema.specs.declared.plain.Resolved.TheVariants.{Null, Boolean, Real, Str, BadValue}
use Rattle.schema.specs.declared.tag.Tag.{Tag}

abbrev pub standard_handle : List ℕ
standard_handle = bytes "tag:yaml.org,2002:"

abbrev pub starts_with : List ℕ → List ℕ → Bool
starts_with p s = same_bytes (take (length p) s) p

-- the name of a standard tag: the suffix of the standard handle; or, without a handle, what follows that handle in a suffix that
-- starts with it
unfoldable pub standard_tag_suffix : List ℕ → List ℕ → Option (List ℕ)
standard_tag_suffix handle suffix =
    cond (same_bytes handle standard_handle) (Some suffix)
    (cond (same_bytes handle [] && starts_with standard_handle suffix) (Some (drop (length standard_handle) suffix))
    None)

-- a misfit is a bad value: no row of the tag matches, or 64 signed bits do not hold the integer
abbrev pub fitted : Meaning → Resolved
fitted null_value = Null
fitted (truth b) = Boolean b
fitted (integer base z) = integer_or (held z) BadValue
fitted real = Real
fitted string = BadValue

-- a scalar of a standard tag, by the rows of its kind
unfoldable pub tagged_as : List ℕ → List ℕ → Resolved
tagged_as name s = fitted (read_as name s)

-- by the tag's name: a misfit is a bad value, a name that is none of the five leaves a string
unfoldable pub tagged_schema : List ℕ → List ℕ → Resolved
tagged_schema name s =
    cond (same_bytes name (bytes "str")) Str
    (cond (same_bytes name (bytes "bool")) (tagged_as (bytes "bool") s)
    (cond (same_bytes name (bytes "int")) (tagged_as (bytes "int") s)
    (cond (same_bytes name (bytes "float")) (tagged_as (bytes "float") s)
    (cond (same_bytes name (bytes "null")) (tagged_as (bytes "null") s)
    Str))))

-- style 0 is plain; quoted and block values are strings
unfoldable pub untagged : List ℕ → ℕ → Resolved
untagged s style = cond (eqb style 0) (core_schema s) Str

-- by the name of its standard tag, if it has one
abbrev pub by_name : Option (List ℕ) → List ℕ → ℕ → Resolved
by_name (Some name) s style = tagged_schema name s
by_name None s style = untagged s style

-- a scalar of a style, by its tag's handle and suffix, if it has a tag
unfoldable pub resolve_scalar : List ℕ → ℕ → Option (List ℕ × List ℕ) → Resolved
resolve_scalar s style (Some tag) = by_name (standard_tag_suffix tag.0 tag.1) s style
resolve_scalar s style None = untagged s style

-- the handle and the suffix of the code's tag
abbrev pub parts_of : Tag → List ℕ × List ℕ
parts_of tag = (tag.handle.now, tag.suffix.now)
