-- Places of a text by the characters before them. Where some characters that begin at a boundary end, a boundary stands again, and
-- what follows are the other characters: so the measures count characters and answer bytes.
use Rattle.std.specs.Prelude.{◌≡◌, refl, Bool, true, false, cond, List, [], ◌∷◌, ◌++◌, ℕ, ◌+◌, ◌-◌, ◌/◌, ◌%◌, ◌≤◌, ltb, length, drop}
use Rattle.std.proofs.Common.{sym, ◌∙◌, ap, subst, append_assoc, zero-add, arith, length-append, length-drop}
use Rattle.utf8.specs.Utf8.{ScalarValues, Utf8, encode, encode_all}
use Rattle.utf8.specs.Characters.{codes}
use Rattle.utf8.specs.Boundary.{Boundary}
use Rattle.utf8.proofs.Utf8Laws.{Place, place_at_lem, place_back, place_boundary, scalars_back, codes_encode, codes-encode_all, encode_all_append, boundary_start, boundary_splits}
use Rattle.utf8.specs.WhiteSpace.{is_white_space}
use Rattle.measure.specs.Run.{bytes_of, white_space_run, after_run}

-- ---- runs

-- the run and what comes after it are all
pub run_split : (cs : List ℕ) → cs ≡ white_space_run cs ++ after_run cs
unfolding white_space_run after_run
run_split [] = refl
run_split (c ∷ cs) = go (is_white_space c) (run_split cs)
  where
    go : (t : Bool) → cs ≡ white_space_run cs ++ after_run cs → c ∷ cs ≡ cond t (c ∷ white_space_run cs) [] ++ cond t (after_run cs) (c ∷ cs)
    go true r = ap (λ (l : List ℕ). c ∷ l) r
    go false r = refl

-- a run goes on over white space, and over nothing else
pub run_goes_on : (c : ℕ) (cs : List ℕ) → is_white_space c ≡ true → white_space_run (c ∷ cs) ≡ c ∷ white_space_run cs
unfolding white_space_run
run_goes_on c cs e = rw e

pub run_stops : (c : ℕ) (cs : List ℕ) → is_white_space c ≡ false → white_space_run (c ∷ cs) ≡ []
unfolding white_space_run
run_stops c cs e = rw e

-- after a run comes no white space
pub after_none : (cs : List ℕ) → white_space_run (after_run cs) ≡ []
unfolding white_space_run after_run
after_none [] = refl
after_none (c ∷ cs) = go (is_white_space c) refl (after_none cs)
  where
    go : (t : Bool) → is_white_space c ≡ t → white_space_run (after_run cs) ≡ [] → white_space_run (cond t (after_run cs) (c ∷ cs)) ≡ []
    go true e r = r
    go false e r = run_stops c cs e

-- ---- places

-- from the boundary i of s on stand the characters xs, and then ys
pub record Onward (s : List ℕ) (i : ℕ) (xs ys : List ℕ) : Type 0 where
  pub boundary : Boundary s (i + bytes_of xs)
  pub follow : codes (drop (i + bytes_of xs) s) ≡ ys

pub onward : {s : List ℕ} {i : ℕ} → Utf8 s → Boundary s i → (xs ys : List ℕ) → codes (drop i s) ≡ xs ++ ys → Onward s i xs ys
onward {s} {i} u b xs ys e =
    let p = place_at_lem u b in
    let v = scalars_back p.before p.after p.scalars in
    let a : p.after ≡ xs ++ ys = sym (codes-encode_all p.after v) ∙ ap codes (sym (place_back p)) ∙ e in
    let w : ScalarValues (xs ++ ys) = subst (λ (l : List ℕ). ScalarValues l) a v in
    let q : Place s (i + bytes_of xs) =
    record {
      before = p.before ++ xs;
      after = ys;
      scalars = rw append_assoc (subst (λ (l : List ℕ). ScalarValues (p.before ++ l)) a p.scalars);
      text =
          p.text ∙ ap (λ (l : List ℕ). encode_all p.before ++ encode_all l) a
          ∙ ap (λ (l : List ℕ). encode_all p.before ++ l) (encode_all_append xs ys)
          ∙ sym (append_assoc (encode_all p.before) (encode_all xs) (encode_all ys))
          ∙ ap (λ (l : List ℕ). l ++ encode_all ys) (sym (encode_all_append p.before xs));
      offset =
          ap (λ (n : ℕ). n + bytes_of xs) p.offset
          ∙ sym (ap length (encode_all_append p.before xs) ∙ length-append (encode_all p.before) (encode_all xs));
    }
    in
    record { boundary = place_boundary q; follow = ap codes (place_back q) ∙ codes-encode_all ys (scalars_back xs ys w) }

-- where the first characters of a text end
pub prefix_boundary : {s : List ℕ} → Utf8 s → (xs ys : List ℕ) → codes s ≡ xs ++ ys → Boundary s (bytes_of xs)
prefix_boundary {s} u xs ys e = rw zero-add at (onward u (boundary_start u) xs ys e).boundary

-- the bytes left are those of the characters left
pub bytes_left : {s : List ℕ} {i : ℕ} → Utf8 s → Boundary s i → length s ≡ i + bytes_of (codes (drop i s))
bytes_left {s} {i} u b =
    let w = b.within in
    let e : length s - i ≡ bytes_of (codes (drop i s)) = sym (length-drop i s) ∙ ap length (codes_encode (boundary_splits u b).back) in
    omega arith

-- every character takes a byte at least
pub encode_takes : (c : ℕ) → 1 ≤ length (encode c)
unfolding encode
encode_takes c = go (ltb c 0x80) (ltb c 0x800) (ltb c 0x1_0000)
  where
    go : (x y z : Bool)
        → 1
        ≤ length
        (cond x (c ∷ [])
        (cond y ((0xc0 + c / 64) ∷ (0x80 + c % 64) ∷ [])
        (cond z ((0xe0 + c / 4096) ∷ (0x80 + c / 64 % 64) ∷ (0x80 + c % 64) ∷ [])
        ((0xf0 + c / 262144) ∷ (0x80 + c / 4096 % 64) ∷ (0x80 + c / 64 % 64) ∷ (0x80 + c % 64) ∷ []))))
    go true y z = omega arith
    go false true z = omega arith
    go false false true = omega arith
    go false false false = omega arith

pub bytes_cons : (c : ℕ) (cs : List ℕ) → bytes_of (c ∷ cs) ≡ length (encode c) + bytes_of cs
unfolding encode_all
bytes_cons c cs = length-append (encode c) (encode_all cs)

pub bytes_append : (xs ys : List ℕ) → bytes_of (xs ++ ys) ≡ bytes_of xs + bytes_of ys
bytes_append xs ys = ap length (encode_all_append xs ys) ∙ length-append (encode_all xs) (encode_all ys)
