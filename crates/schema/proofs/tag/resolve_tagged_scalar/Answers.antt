-- `schema::tag::resolve_tagged_scalar` meets its contract: by the name, each of four compared.
use Rattle.std.proofs.Common.{◌∙◌, sym}
use Rattle.schema.proofs.Forms.{tagged_int, tagged_float, tagged_bool, tagged_null}
use Rattle.schema.proofs.Tags.{as_bool, as_int, as_float, as_null, as_other}
use Rattle.schema.proofs.tag.resolve_tagged_scalar.Goals as goal

pub returns-then-eq : goal.returns-then-eq
returns-then-eq c =
    c.of_kind.ensures
    ∙ rw c.resolve_plain_scalar.ensures (tagged_bool c.args.value.now (λ k. (c.type_inv.value k).fits))
    ∙ as_bool _ _ (sym c.eq.ensures ∙ c.if-eq.true)

pub returns-then-eq-2 : goal.returns-then-eq-2
returns-then-eq-2 c =
    c.integer_or.ensures ∙ rw c.parse_core_schema_int.ensures (tagged_int c.args.value.now) ∙ as_int _ _ (sym c.eq-else-eq.ensures ∙ c.if-eq-2.true)

pub returns-then-is_yaml_float : goal.returns-then-is_yaml_float
returns-then-is_yaml_float c =
    rw (sym c.is_yaml_float.ensures ∙ c.if-is_yaml_float.true) at (tagged_float c.args.value.now)
    ∙ as_float _ _ (sym c.eq-else-eq-2.ensures ∙ c.if-eq-3.true)

pub returns-else-is_yaml_float : goal.returns-else-is_yaml_float
returns-else-is_yaml_float c =
    rw (sym c.is_yaml_float.ensures ∙ c.if-is_yaml_float.false) at (tagged_float c.args.value.now)
    ∙ as_float _ _ (sym c.eq-else-eq-2.ensures ∙ c.if-eq-3.true)

pub returns-then-eq-4 : goal.returns-then-eq-4
returns-then-eq-4 c =
    c.of_kind-then-eq-4.ensures
    ∙ rw c.resolve_plain_scalar-then-eq-4.ensures (tagged_null c.args.value.now (λ k. (c.type_inv.value k).fits))
    ∙ as_null _ _ (sym c.eq-else-eq-3.ensures ∙ c.if-eq-4.true)

pub returns-else-eq-4 : goal.returns-else-eq-4
returns-else-eq-4 c =
    as_other _ _ (sym c.eq.ensures ∙ c.if-eq.false) (sym c.eq-else-eq.ensures ∙ c.if-eq-2.false) (sym c.eq-else-eq-2.ensures ∙ c.if-eq-3.false)
    (sym c.eq-else-eq-3.ensures ∙ c.if-eq-4.false)
