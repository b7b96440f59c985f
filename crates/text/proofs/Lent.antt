-- A cursor in memory, as one that is lent by `&mut` lies there, and a contract of three plain facts. Only a walk by hand needs it.
--     spelled, offset_fits     what is known of a cursor's machine value
--     well_typed, made         the value has the struct's MIR type, and what the type owns of it is had for nothing
--     put_down, picked_up      a cursor in a local's cell can be lent; and one that has come back is in the local's cell
--     learns, shows_all        the three facts of a `requires`: learned by the function, and shown to a callee
-- Assumes `Logic`.
use mathlib.Core.Path.{◌≡◌, subst, ap}
use Prim.Native.Nat.{ℕ, ◌<◌, ◌^◌}
use mathlib.Core.List.{List, [], ◌∷◌}
use lib.Dec.{T as Holds}
use seplogic.Ra.Ura.{Ura}
use base.Fraction.{full_share}
use mir.Val.{Val, WT, has_ty}
use base.Logic.{SProp, ent, sep, emp, via, fst∗, snd∗, comm∗, mono_l, mono_r, emp∗}
use base.Fml.{Fml, fsep, fat}
use types.Logic.{Logic, sem}
use contract.Monad.{fact, fact_i, fact_use}
use types.Kit.{Item, Step, step, prop, ‵, ◌$◌, ◌∵◌, !, qed, move, use1, fsplit, fjoin, fpick, fpack, frame, done}
use denote.Laws.{Is, Makes, shows}
use denote.Memory.{part_of, part_at, cell_at}
use denote.Steps.{only, owned}
use denote.Struct.Steps.{spelt}
use denote.Struct.Laws as LL
use Rattle.text.specs.declared.offset.Cursor.{Cursor}
use Rattle.text.specs.contracts.offset.Cursor as T
use Rattle.text.proofs.offset.Cursor.TheLaws as T'

-- that c has the machine value v
abbrev pub IsCursor : Cursor → Val → Type 0
IsCursor c v = Is T.the_row c (v ∷ [])

-- the machine value is the one that the struct's laws spell
pub spelled : (c : Cursor) (v : Val) → IsCursor c v → v ≡ T'.lowered c
spelled c v is = ap only (LL.tells T.the_type T'.the_laws c (v ∷ []) is)

pub as_spelled : (c : Cursor) (v : Val) → IsCursor c v → IsCursor c (T'.lowered c)
as_spelled c v is = subst (IsCursor c) (spelled c v is) is

pub offset_fits : (c : Cursor) (v : Val) → IsCursor c v → c.offset < 2 ^ 64
offset_fits c v is = (LL.owed T.the_type T'.the_laws c (v ∷ []) is).1.0.1

module _ {M : Type 1} {𝓤 : Ura M} (𝓛 : Logic 𝓤) where
  pub well_typed : (c : Cursor) (v : Val) → IsCursor c v → Holds (has_ty T'.mir v) × WT v
  well_typed c v is = ((LL.lawful T.the_type T'.the_laws 𝓛).typed c (v ∷ []) is).0

  pub made : Makes 𝓛 T.the_row (Is T.the_row)
  made = LL.makes T.the_type T'.the_plain 𝓛

  abbrev lying : Cursor → ℕ → List Val → Fml
  lying c l vs = fsep (cell_at full_share (T.the_row).mir vs l 0) ((T.the_row).own_val c vs)

  pub put_down : (c : Cursor) (l : ℕ) → IsCursor c (T'.lowered c) → ent 𝓤 (sem 𝓛 (fat full_share T'.mir l 0 (T'.lowered c))) (sem 𝓛 (part_at T.the_row full_share c l 0))
  unfolding part_of
  put_down c l is =
      qed 𝓛 (‵ (fat full_share T'.mir l 0 (T'.lowered c)) ∷ []) ∵
      use1 𝓛 (‵ (cell_at full_share (T.the_row).mir (T'.lowered c ∷ []) l 0)) (𝓛.laws.at_raw full_share T'.mir l 0 (T'.lowered c)) $
      owned ! T.the_row (Is T.the_row) made c _ is $ move ! (1 ∷ 0 ∷ []) $ fjoin ! $ fpack ! (List Val) (lying c l) (T'.lowered c ∷ []) $ done !

  pub picked_up : (c : Cursor) (l : ℕ) → ent 𝓤 (sem 𝓛 (part_at T.the_row full_share c l 0)) (sep 𝓤 (sem 𝓛 (fat full_share T'.mir l 0 (T'.lowered c))) (sem 𝓛 ((T.the_row).own_val c (T'.lowered c ∷ []))))
  unfolding part_of
  picked_up c l =
      qed 𝓛 (‵ (part_at T.the_row full_share c l 0) ∷ []) ∵ fpick ! (λ vs. fsplit ! $
      spelt ! T.the_row (Is T.the_row) (shows 𝓛 T.the_row) (LL.vals T.the_type T'.the_laws) (LL.tells T.the_type T'.the_laws) full_share c vs l 0 $
      use1 𝓛 (‵ (fat full_share T'.mir l 0 (T'.lowered c))) (𝓛.laws.raw_at full_share T'.mir l 0 (T'.lowered c)) $ frame ! $ done !)

-- three facts, as the clauses of a `requires` are put together
abbrev pub Facts : {M : Type 1} (𝓤 : Ura M) → Type 0 → Type 0 → Type 0 → SProp 𝓤
Facts 𝓤 φ ψ χ = sep 𝓤 (fact 𝓤 φ) (sep 𝓤 (fact 𝓤 ψ) (fact 𝓤 χ))

pub learns : {M : Type 1} (𝓤 : Ura M) (φ ψ χ : Type 0) (P : SProp 𝓤) {Q : SProp 𝓤} → (φ → ψ → χ → ent 𝓤 P Q) → ent 𝓤 (sep 𝓤 P (Facts 𝓤 φ ψ χ)) Q
learns 𝓤 φ ψ χ P h =
    let all = Facts 𝓤 φ ψ χ in
    let two = sep 𝓤 (fact 𝓤 ψ) (fact 𝓤 χ) in
    let last-two = via 𝓤 all (snd∗ 𝓤 P all) (snd∗ 𝓤 (fact 𝓤 φ) two) in
    fact_use 𝓤 φ (via 𝓤 all (snd∗ 𝓤 P all) (fst∗ 𝓤 (fact 𝓤 φ) two)) (λ x.
    fact_use 𝓤 ψ (via 𝓤 two last-two (fst∗ 𝓤 (fact 𝓤 ψ) (fact 𝓤 χ))) (λ y.
    fact_use 𝓤 χ (via 𝓤 two last-two (snd∗ 𝓤 (fact 𝓤 ψ) (fact 𝓤 χ))) (λ z.
    via 𝓤 P (fst∗ 𝓤 P all) (h x y z))))

-- a fact beside what is had for nothing
fact_beside : {M : Type 1} (𝓤 : Ura M) (φ : Type 0) (Q : SProp 𝓤) → φ → ent 𝓤 (emp 𝓤) Q → ent 𝓤 (emp 𝓤) (sep 𝓤 (fact 𝓤 φ) Q)
fact_beside 𝓤 φ Q x q =
    via 𝓤 (sep 𝓤 (emp 𝓤) (emp 𝓤)) (emp∗ 𝓤 (emp 𝓤))
    (via 𝓤 (sep 𝓤 (fact 𝓤 φ) (emp 𝓤)) (mono_l 𝓤 (emp 𝓤) (fact_i 𝓤 φ (emp 𝓤) x)) (mono_r 𝓤 (fact 𝓤 φ) q))

all_hold : {M : Type 1} (𝓤 : Ura M) (φ ψ χ : Type 0) → φ → ψ → χ → ent 𝓤 (emp 𝓤) (Facts 𝓤 φ ψ χ)
all_hold 𝓤 φ ψ χ x y z = fact_beside 𝓤 φ (sep 𝓤 (fact 𝓤 ψ) (fact 𝓤 χ)) x (fact_beside 𝓤 ψ (fact 𝓤 χ) y (fact_i 𝓤 χ (emp 𝓤) z))

pub shows_all : {M : Type 1} {𝓤 : Ura M} {𝓛 : Logic 𝓤} {K : Type 0} {Γ : List (Item 𝓤)} → K → {φ ψ χ : Type 0} {P : SProp 𝓤} → φ → ψ → χ
    → Step K 𝓛 Γ (prop P) Γ (prop (sep 𝓤 P (Facts 𝓤 φ ψ χ)))
shows_all {𝓤 = 𝓤} t {φ} {ψ} {χ} {P} x y z =
    let all = Facts 𝓤 φ ψ χ in
    step (λ s. record { prf = via 𝓤 P s.prf (via 𝓤 (sep 𝓤 (emp 𝓤) P) (emp∗ 𝓤 P) (via 𝓤 (sep 𝓤 all P) (mono_l 𝓤 P (all_hold 𝓤 φ ψ χ x y z)) (comm∗ 𝓤 all P))) })
