-- The matcher is right: `accepts r s` is true where, and only where, `Matches r s` holds (`accepts_sound`,
-- `accepts_complete`). Byte by byte: `Matches r (b ∷ s)` where and only where `Matches (derivative b r) s`, and
-- `Matches r []` where and only where `nullable r`.
use mathlib.Core.Path.{◌≡◌, refl, sym, ◌∙◌, ap, subst}
use mathlib.Core.Bool.{Bool, true, false, ◌&&◌, cond}
use mathlib.Core.List.{List, [], ◌∷◌, ◌++◌}
use mathlib.Core.Logic.{◌⊎◌, inl, inr, ⊎_elim}
use Prim.Native.Nat.{ℕ, ◌≤◌}
use native.Mathlib.Omega.{arith}
use borrow.Author.Tests.{leb-true, le-leb}
use lib.Dec.{leb}
use Rattle.schema.specs.Regex.{Regex, none, empty, range, seq, alt, star, Matches, m_empty, m_range, m_seq, m_left, m_right, m_done, m_more}
use Rattle.schema.specs.Matcher.{is_none, join, union, nullable, derivative, accepts}
use Rattle.schema.specs.Statements.{MatcherExact}
use Rattle.utf8.specs.Tests.{clash, and_left, and_right}
use Rattle.schema.proofs.Bools.{and_both, or_cases, or_left, or_right}

-- ---- lists
cons_nil : {A : Type 0} {b : ℕ} {s : List ℕ} → b ∷ s ≡ [] → A
cons_nil {A} {b} {s} e = absurd (let z : ◌≡◌ {A = ℕ} 0 1 = cc in omega arith)

head_is : {c b : ℕ} {u t : List ℕ} → c ∷ u ≡ b ∷ t → c ≡ b
head_is e = cc

tail_is : {c b : ℕ} {u t : List ℕ} → c ∷ u ≡ b ∷ t → u ≡ t
tail_is e = cc

append-nil : (u v : List ℕ) → u ++ v ≡ [] → (u ≡ []) × (v ≡ [])
append-nil [] v e = (refl, e)
append-nil (b ∷ u) v e = cons_nil e

-- ---- what a match is made of
live : {r : Regex} {s : List ℕ} → Matches r s → is_none r ≡ false
live m_empty = refl
live (m_range p q) = refl
live (m_seq a b) = refl
live (m_left a) = refl
live (m_right a) = refl
live m_done = refl
live (m_more a b) = refl

inv_none : {s : List ℕ} {A : Type 0} → Matches none s → A
inv_none m = absurd (clash (live m))

inv_empty : {s : List ℕ} → Matches empty s → s ≡ []
inv_empty m_empty = refl

record InSeq (r q : Regex) (s : List ℕ) : Type 0 where
  u : List ℕ
  v : List ℕ
  is : s ≡ u ++ v
  left : Matches r u
  right : Matches q v

inv_seq : {r q : Regex} {s : List ℕ} → Matches (seq r q) s → InSeq r q s
inv_seq (m_seq {u = u} {v = v} a b) = record { u = u; v = v; is = refl; left = a; right = b }

inv_alt : {r q : Regex} {s : List ℕ} → Matches (alt r q) s → Matches r s ⊎ Matches q s
inv_alt (m_left a) = inl a
inv_alt (m_right a) = inr a

-- ---- the two makers
join_sound : (r q : Regex) {s : List ℕ} → Matches (join r q) s → Matches (seq r q) s
join_sound none q m = inv_none m
join_sound empty q m = m_seq m_empty m
join_sound (range a b) q m = m
join_sound (seq a b) q m = m
join_sound (alt a b) q m = m
join_sound (star a) q m = m

join_complete : (r q : Regex) {s : List ℕ} → Matches (seq r q) s → Matches (join r q) s
join_complete none q m = inv_none (inv_seq m).left
join_complete empty q m =
    let i = inv_seq m in
    subst (λ (t : List ℕ). Matches q t) (sym (i.is ∙ ap (λ (u : List ℕ). u ++ i.v) (inv_empty i.left))) i.right
join_complete (range a b) q m = m
join_complete (seq a b) q m = m
join_complete (alt a b) q m = m
join_complete (star a) q m = m

alt_sound : (r q : Regex) {s : List ℕ} → Matches (cond (is_none q) r (alt r q)) s → Matches r s ⊎ Matches q s
alt_sound r none m = inl m
alt_sound r empty m = inv_alt m
alt_sound r (range a b) m = inv_alt m
alt_sound r (seq a b) m = inv_alt m
alt_sound r (alt a b) m = inv_alt m
alt_sound r (star a) m = inv_alt m

union_sound : (r q : Regex) {s : List ℕ} → Matches (union r q) s → Matches r s ⊎ Matches q s
union_sound none q m = inr m
union_sound empty q m = alt_sound empty q m
union_sound (range a b) q m = alt_sound (range a b) q m
union_sound (seq a b) q m = alt_sound (seq a b) q m
union_sound (alt a b) q m = alt_sound (alt a b) q m
union_sound (star a) q m = alt_sound (star a) q m

whole : {r q : Regex} {s : List ℕ} → Matches r s ⊎ Matches q s → Matches (alt r q) s
whole (inl a) = m_left a
whole (inr a) = m_right a

alt_complete : (r q : Regex) {s : List ℕ} → Matches r s ⊎ Matches q s → Matches (cond (is_none q) r (alt r q)) s
alt_complete r none m = ⊎_elim (λ a. a) (λ a. inv_none a) m
alt_complete r empty m = whole m
alt_complete r (range a b) m = whole m
alt_complete r (seq a b) m = whole m
alt_complete r (alt a b) m = whole m
alt_complete r (star a) m = whole m

union_complete : (r q : Regex) {s : List ℕ} → Matches r s ⊎ Matches q s → Matches (union r q) s
union_complete none q m = ⊎_elim (λ a. inv_none a) (λ a. a) m
union_complete empty q m = alt_complete empty q m
union_complete (range a b) q m = alt_complete (range a b) q m
union_complete (seq a b) q m = alt_complete (seq a b) q m
union_complete (alt a b) q m = alt_complete (alt a b) q m
union_complete (star a) q m = alt_complete (star a) q m

-- ---- the empty list
pub nullable_sound : (r : Regex) → nullable r ≡ true → Matches r []
unfolding nullable
nullable_sound none e = absurd (clash (sym e))
nullable_sound empty e = m_empty
nullable_sound (range a b) e = absurd (clash (sym e))
nullable_sound (seq r q) e = m_seq (nullable_sound r (and_left (nullable r) (nullable q) e)) (nullable_sound q (and_right (nullable r) (nullable q) e))
nullable_sound (alt r q) e = or_cases (nullable r) (nullable q) e (λ p. m_left (nullable_sound r p)) (λ p. m_right (nullable_sound q p))
nullable_sound (star r) e = m_done

pub nullable_complete : {r : Regex} {s : List ℕ} → Matches r s → s ≡ [] → nullable r ≡ true
unfolding nullable
nullable_complete m_empty e = refl
nullable_complete (m_range {b = b} p q) e = cons_nil e
nullable_complete (m_seq {u = u} {v = v} a b) e = and_both (nullable_complete a (append-nil u v e).0) (nullable_complete b (append-nil u v e).1)
nullable_complete (m_left {r = r} {q = q} a) e = or_left (nullable r) (nullable q) (nullable_complete a e)
nullable_complete (m_right {r = r} {q = q} a) e = or_right (nullable r) (nullable q) (nullable_complete a e)
nullable_complete m_done e = refl
nullable_complete (m_more a b) e = refl

-- ---- one byte
byte_sound : (b lo hi : ℕ) {s : List ℕ} → Matches (cond (leb lo b && leb b hi) empty none) s → Matches (range lo hi) (b ∷ s)
byte_sound b lo hi {s} m = go (leb lo b && leb b hi) refl m
  where
    go : (t : Bool) → leb lo b && leb b hi ≡ t → Matches (cond t empty none) s → Matches (range lo hi) (b ∷ s)
    go true e m =
        subst (λ (t : List ℕ). Matches (range lo hi) (b ∷ t)) (sym (inv_empty m))
        (m_range (leb-true lo b (and_left (leb lo b) (leb b hi) e)) (leb-true b hi (and_right (leb lo b) (leb b hi) e)))
    go false e m = inv_none m

-- the first of two takes the byte
first : (b : ℕ) (r q d : Regex) {s : List ℕ} → ((t : List ℕ) → Matches d t → Matches r (b ∷ t)) → Matches (seq d q) s → Matches (seq r q) (b ∷ s)
first b r q d f m =
    let i = inv_seq m in
    subst (λ (t : List ℕ). Matches (seq r q) (b ∷ t)) (sym i.is) (m_seq (f i.u i.left) i.right)

seq_sound : (b : ℕ) (r q d e : Regex) (n : Bool) {s : List ℕ} → n ≡ nullable r → ((t : List ℕ) → Matches d t → Matches r (b ∷ t)) → ((t : List ℕ) → Matches e t → Matches q (b ∷ t))
    → Matches (cond n (union (join d q) e) (join d q)) s → Matches (seq r q) (b ∷ s)
seq_sound b r q d e true {s} n f g m =
    ⊎_elim (λ a. first b r q d f (join_sound d q a)) (λ a. m_seq (nullable_sound r (sym n)) (g s a)) (union_sound (join d q) e m)
seq_sound b r q d e false n f g m = first b r q d f (join_sound d q m)

again : (b : ℕ) (r d : Regex) {s : List ℕ} → ((t : List ℕ) → Matches d t → Matches r (b ∷ t)) → Matches (seq d (star r)) s → Matches (star r) (b ∷ s)
again b r d f m =
    let i = inv_seq m in
    subst (λ (t : List ℕ). Matches (star r) (b ∷ t)) (sym i.is) (m_more (f i.u i.left) i.right)

pub derivative_sound : (b : ℕ) (r : Regex) (s : List ℕ) → Matches (derivative b r) s → Matches r (b ∷ s)
unfolding derivative
derivative_sound b none s m = inv_none m
derivative_sound b empty s m = inv_none m
derivative_sound b (range lo hi) s m = byte_sound b lo hi m
derivative_sound b (seq r q) s m = seq_sound b r q (derivative b r) (derivative b q) (nullable r) refl (derivative_sound b r) (derivative_sound b q) m
derivative_sound b (alt r q) s m = ⊎_elim (λ a. m_left (derivative_sound b r s a)) (λ a. m_right (derivative_sound b q s a)) (union_sound (derivative b r) (derivative b q) m)
derivative_sound b (star r) s m = again b r (derivative b r) (derivative_sound b r) (join_sound (derivative b r) (star r) m)

-- ---- and back
byte_complete : (b lo hi : ℕ) → lo ≤ b → b ≤ hi → Matches (cond (leb lo b && leb b hi) empty none) []
byte_complete b lo hi p q = rw (le-leb lo b p, le-leb b hi q) m_empty

-- the parts of a list that begins with b
data Cut (u v : List ℕ) (b : ℕ) (t : List ℕ) : Type 0 where
  later : u ≡ [] → v ≡ b ∷ t → Cut u v b t
  now : (w : List ℕ) → u ≡ b ∷ w → t ≡ w ++ v → Cut u v b t

cut : (u v : List ℕ) (b : ℕ) (t : List ℕ) → u ++ v ≡ b ∷ t → Cut u v b t
cut [] v b t e = later refl e
cut (c ∷ u) v b t e = now u (cc) (cc)

seq_complete : (b : ℕ) (r q d e : Regex) (n : Bool) (u v t : List ℕ) → n ≡ nullable r → Matches r u → Matches q v
    → ((w : List ℕ) → u ≡ b ∷ w → Matches d w) → (v ≡ b ∷ t → Matches e t)
    → Cut u v b t → Matches (cond n (union (join d q) e) (join d q)) t
seq_complete b r q d e true u v t n x y f g (later p k) = union_complete (join d q) e (inr (g k))
seq_complete b r q d e false u v t n x y f g (later p k) = absurd (clash (sym (nullable_complete x p) ∙ sym n))
seq_complete b r q d e true u v t n x y f g (now w p k) = union_complete (join d q) e (inl (join_complete d q (rw k (m_seq (f w p) y))))
seq_complete b r q d e false u v t n x y f g (now w p k) = join_complete d q (rw k (m_seq (f w p) y))

star_complete : (b : ℕ) (r d : Regex) (u v t : List ℕ) → Matches (star r) v
    → ((w : List ℕ) → u ≡ b ∷ w → Matches d w) → (v ≡ b ∷ t → Matches (join d (star r)) t)
    → Cut u v b t → Matches (join d (star r)) t
star_complete b r d u v t y f g (later p k) = g k
star_complete b r d u v t y f g (now w p k) = join_complete d (star r) (rw k (m_seq (f w p) y))

pub derivative_complete : {r : Regex} {s : List ℕ} → Matches r s → (b : ℕ) (t : List ℕ) → s ≡ b ∷ t → Matches (derivative b r) t
unfolding derivative
derivative_complete m_empty b t e = cons_nil (sym e)
derivative_complete (m_range {lo = lo} {hi = hi} {b = c} p q) b t e =
    subst (λ (x : List ℕ). Matches (derivative b (range lo hi)) x) (tail_is e)
    (subst (λ (x : ℕ). Matches (derivative x (range lo hi)) []) (head_is e) (byte_complete c lo hi p q))
derivative_complete (m_seq {r = r} {q = q} {u = u} {v = v} x y) b t e =
    seq_complete b r q (derivative b r) (derivative b q) (nullable r) u v t refl x y (λ w k. derivative_complete x b w k) (λ k. derivative_complete y b t k) (cut u v b t e)
derivative_complete (m_left {r = r} {q = q} x) b t e = union_complete (derivative b r) (derivative b q) (inl (derivative_complete x b t e))
derivative_complete (m_right {r = r} {q = q} x) b t e = union_complete (derivative b r) (derivative b q) (inr (derivative_complete x b t e))
derivative_complete m_done b t e = cons_nil (sym e)
derivative_complete (m_more {r = r} {u = u} {v = v} x y) b t e =
    star_complete b r (derivative b r) u v t y (λ w k. derivative_complete x b w k) (λ k. derivative_complete y b t k) (cut u v b t e)

-- ---- the matcher
pub accepts_sound : (s : List ℕ) (r : Regex) → accepts r s ≡ true → Matches r s
unfolding accepts
accepts_sound [] r e = nullable_sound r e
accepts_sound (b ∷ s) r e = derivative_sound b r s (accepts_sound s (derivative b r) e)

pub accepts_complete : (s : List ℕ) (r : Regex) → Matches r s → accepts r s ≡ true
unfolding accepts
accepts_complete [] r m = nullable_complete m refl
accepts_complete (b ∷ s) r m = accepts_complete s (derivative b r) (derivative_complete m b s refl)

pub matcher_exact : MatcherExact
matcher_exact = record { sound = accepts_sound; complete = accepts_complete }
