-- What a whole write leaves of a file: it is one of the writes that a crash cuts short, and a file in memory does it
-- in place.
use Rattle.std.proofs.Common.{◌≡◌, inl, inr, ⊎_elim, ℕ, zero, suc, ◌+◌, ◌-◌, ◌<◌, ◌≤◌, max, List, [], ◌∷◌, ◌++◌, length, get_or, take, drop, replicate, sym, ◌∙◌, ap, arith, append_assoc, length-append, length-drop, take-append-drop}
use Rattle.std.proofs.lemmas.List.{take-append-le, drop-append-le, take_at, drop_at, take_all, drop_all, append-nil, drop-drop, length-take, length-take-le, take-replicate, length-replicate, get_or-take, get_or_append_left, get_or-append_right, get_or-drop}
use Rattle.std.proofs.lemmas.Bool.{cases_lt}
use Rattle.house_io.specs.Moments.{Torn, overlaid}

-- a write where a first part of the file ends
pub overlaid_behind : (pre : List ℕ) (at : ℕ) → length pre ≡ at → (free bytes : List ℕ) → overlaid (pre ++ free) at bytes ≡ pre ++ bytes ++ drop (length bytes) free
overlaid_behind pre at is free bytes =
    let whole : length (pre ++ free) ≡ at + length free = omega (arith, length-append pre free, is) in
    let front : take at ((pre ++ free) ++ replicate (at - length (pre ++ free)) 0) ≡ pre =
    ap (λ (l : List ℕ). take at l) (append_assoc pre free (replicate (at - length (pre ++ free)) 0)) ∙ take_at pre (free ++ replicate (at - length (pre ++ free)) 0) at is in
    let back : drop (at + length bytes) (pre ++ free) ≡ drop (length bytes) free =
    sym (drop-drop (length bytes) at (pre ++ free)) ∙ ap (λ (l : List ℕ). drop (length bytes) l) (drop_at pre free at is) in
    ap (λ (l : List ℕ). l ++ bytes ++ drop (at + length bytes) (pre ++ free)) front ∙ ap (λ (l : List ℕ). pre ++ bytes ++ l) back

module _ (file bytes : List ℕ) (at : ℕ) where
  module _ (within : at ≤ length file) where
    pre_is : length (take at file) ≡ at
    pre_is = length-take-le at file within

    new_is : overlaid file at bytes ≡ take at file ++ bytes ++ drop (length bytes) (drop at file)
    new_is = ap (λ (f : List ℕ). overlaid f at bytes) (sym (take-append-drop at file)) ∙ overlaid_behind (take at file) at pre_is (drop at file) bytes

    sizes : length (overlaid file at bytes) ≡ max (length file) (at + length bytes)
    sizes = omega (arith, ap length new_is, length-append (take at file ++ bytes) (drop (length bytes) (drop at file)), length-append (take at file) bytes, length-drop (length bytes) (drop at file), length-drop at file, pre_is, within)

    parts_is : length (take at file ++ bytes) ≡ at + length bytes
    parts_is = omega (arith, length-append (take at file) bytes, pre_is)

    early : (i : ℕ) → i < at → get_or (overlaid file at bytes) i 0 ≡ get_or file i 0
    early i before =
        ap (λ (l : List ℕ). get_or l i 0) (new_is ∙ append_assoc (take at file) bytes (drop (length bytes) (drop at file)))
        ∙ get_or_append_left (take at file) (bytes ++ drop (length bytes) (drop at file)) 0 i (omega (arith, before, pre_is))
        ∙ get_or-take at file i 0 before

    late : (i : ℕ) → i < length file → at + length bytes ≤ i → get_or (overlaid file at bytes) i 0 ≡ get_or file i 0
    late i below past =
        ap (λ (l : List ℕ). get_or l i 0) new_is
        ∙ get_or-append_right (take at file ++ bytes) (drop (length bytes) (drop at file)) (at + length bytes) i 0 parts_is past
        ∙ get_or-drop (length bytes) (drop at file) (i - (at + length bytes)) 0
        ∙ get_or-drop at file (length bytes + (i - (at + length bytes))) 0
        ∙ ap (λ (k : ℕ). get_or file k 0) (let e : at + (length bytes + (i - (at + length bytes))) ≡ i = omega (arith, past) in e)

    inside_torn : Torn at (length bytes) file (overlaid file at bytes)
    inside_torn = record {
      no_shorter = omega (arith, sizes);
      no_longer = omega (arith, sizes);
      same = λ i below outside. ⊎_elim (λ before. early i before) (λ past. late i below past) outside;
    }

  module _ (past : length file ≤ at) where
    abbrev zeros : List ℕ
    zeros = replicate (at - length file) 0

    gap_is : overlaid file at bytes ≡ file ++ (zeros ++ bytes)
    gap_is =
        (λ i. take_all at (file ++ zeros) (let short : length (file ++ zeros) ≤ at = omega (arith, length-append file zeros, length-replicate {A = ℕ} (at - length file) 0, past) in short) i ++ bytes
        ++ drop_all (at + length bytes) file (let none : length file ≤ at + length bytes = omega (arith, past) in none) i)
        ∙ append-nil ((file ++ zeros) ++ bytes)
        ∙ append_assoc file zeros bytes

    gap_torn : Torn at (length bytes) file (overlaid file at bytes)
    gap_torn =
        let size : length (overlaid file at bytes) ≡ at + length bytes = omega (arith, ap length gap_is, length-append file (zeros ++ bytes), length-append zeros bytes, length-replicate {A = ℕ} (at - length file) 0, past) in
        record {
          no_shorter = omega (arith, size, past);
          no_longer = omega (arith, size);
          same = λ i below outside. ap (λ (l : List ℕ). get_or l i 0) gap_is ∙ get_or_append_left file (zeros ++ bytes) 0 i below;
        }

  pub overlaid_torn : Torn at (length bytes) file (overlaid file at bytes)
  overlaid_torn = elim (cases_lt at (length file)) [
    | inl less ↦ inside_torn (omega (arith, less))
    | inr more ↦ gap_torn more
  ]

-- a file that was filled up with zeros to the end of the write
abbrev pub filled : List ℕ → ℕ → List ℕ
filled file end = file ++ replicate (end - length file) 0

front_is : (file : List ℕ) (at end : ℕ) → at ≤ end → take at (filled file end) ≡ take at (file ++ replicate (at - length file) 0)
front_is file at end le = elim (cases_lt at (length file)) [
  | inl less ↦ take-append-le at file (replicate (end - length file) 0) (omega (arith, less)) ∙ sym (take-append-le at file (replicate (at - length file) 0) (omega (arith, less)))
  | inr more ↦
      take-append_past file (replicate (end - length file) 0) at more ∙ ap (λ (l : List ℕ). file ++ l) (take-replicate (at - length file) (end - length file) 0 (omega (arith, le)))
      ∙ sym (take_all at (file ++ replicate (at - length file) 0) (omega (arith, length-append file (replicate (at - length file) 0), length-replicate {A = ℕ} (at - length file) 0, more)))
]
  where
    take-append_past : (xs ys : List ℕ) (n : ℕ) → length xs ≤ n → take n (xs ++ ys) ≡ xs ++ take (n - length xs) ys
    take-append_past [] ys n past = let e : n ≡ n - 0 = omega arith in ap (λ (k : ℕ). take k ys) e
    take-append_past (x ∷ xs) ys zero past = absurd (omega arith)
    take-append_past (x ∷ xs) ys (suc n) past =
        let e : n - length xs ≡ suc n - suc (length xs) = omega arith in
        ap (λ (l : List ℕ). x ∷ l) (take-append_past xs ys n (omega arith) ∙ ap (λ (k : ℕ). xs ++ take k ys) e)

back_is : (file : List ℕ) (end : ℕ) → drop end (filled file end) ≡ drop end file
back_is file end = elim (cases_lt end (length file)) [
  | inl less ↦
      drop-append-le end file (replicate (end - length file) 0) (omega (arith, less))
      ∙ ap (λ (l : List ℕ). drop end file ++ l) (let e : end - length file ≡ 0 = omega (arith, less) in ap (λ (k : ℕ). replicate k 0) e) ∙ append-nil (drop end file)
  | inr more ↦ drop_all end (filled file end) (omega (arith, length-append file (replicate (end - length file) 0), length-replicate {A = ℕ} (end - length file) 0, more)) ∙ sym (drop_all end file more)
]

-- the bytes were copied over those between two offsets of the filled file
module _ (file bytes : List ℕ) (at end : ℕ) (is : end ≡ at + length bytes) where
  abbrev put : List ℕ
  put = take at (filled file end) ++ (bytes ++ drop (end - at) (drop at (filled file end)))

  put_is : put ≡ overlaid file at bytes
  put_is =
      let back : drop (end - at) (drop at (filled file end)) ≡ drop (at + length bytes) file =
      drop-drop (end - at) at (filled file end) ∙ (let e : at + (end - at) ≡ end = omega (arith, is) in ap (λ (k : ℕ). drop k (filled file end)) e) ∙ back_is file end ∙ ap (λ (k : ℕ). drop k file) is in
      (λ i. front_is file at end (let le : at ≤ end = omega (arith, is) in le) i ++ (bytes ++ back i))
      ∙ sym (append_assoc (take at (file ++ replicate (at - length file) 0)) bytes (drop (at + length bytes) file))

  length-put : length put ≡ length (filled file end)
  length-put = omega (arith, length-append (take at (filled file end)) (bytes ++ drop (end - at) (drop at (filled file end))), length-append bytes (drop (end - at) (drop at (filled file end))), length-drop (end - at) (drop at (filled file end)), length-drop at (filled file end), length-take at (filled file end), length-append file (replicate (end - length file) 0), length-replicate {A = ℕ} (end - length file) 0, is)

  pub put_back : (len : ℕ) (xs ys zs : List ℕ) → xs ≡ filled file end → ys ≡ bytes → zs ≡ filled file end → len ≡ length xs
      → take len ((take at xs ++ (ys ++ drop (end - at) (drop at xs))) ++ drop (length (take at xs ++ (ys ++ drop (end - at) (drop at xs)))) zs) ≡ overlaid file at bytes
  put_back len xs ys zs xs_is ys_is zs_is len_is =
      let same : take at xs ++ (ys ++ drop (end - at) (drop at xs)) ≡ put = λ i. take at (xs_is i) ++ (ys_is i ++ drop (end - at) (drop at (xs_is i))) in
      let size : length put ≡ length xs = omega (arith, length-put, ap length xs_is) in
      let none : drop (length put) zs ≡ [] = drop_all (length put) zs (omega (arith, size, ap length zs_is, ap length xs_is)) in
      (λ i. take len (same i ++ drop (length (same i)) zs))
      ∙ (λ i. take len (put ++ none i))
      ∙ ap (λ (l : List ℕ). take len l) (append-nil put)
      ∙ take_all len put (omega (arith, size, len_is)) ∙ put_is
