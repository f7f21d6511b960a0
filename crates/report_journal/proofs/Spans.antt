-- What two writes within one range change of a file.
use Rattle.std.proofs.Common.{◌≡◌, ◌⊎◌, inl, inr, ℕ, suc, ◌+◌, ◌<◌, ◌≤◌, List, [], ◌∷◌, ◌++◌, length, get_or, take, drop, refl, sym, ◌∙◌, ap, subst, arith, append_assoc, length-append, take-append-drop}
use Rattle.std.proofs.lemmas.List.{length-take-le, drop_at, drop_more, drop-drop}
use Rattle.house_io.specs.Moments.{Moment, Moments, Torn, overlaid, AtEach, IsSettled, settled}
use Rattle.house_io.proofs.Moments.{at_start, at_both, at_weaker, at_now, leaves_here, settled_torn}
use Rattle.report_journal.specs.Puts.{IsStage, LieAt}
use Rattle.house_io.proofs.Overlays.{overlaid_behind}

-- nothing was written
pub at_rest : (at n : ℕ) (old : Moments) → IsSettled old.now → AtEach (Torn at n old.now.read) old old
at_rest at n old is_settled =
    at_start (Torn at n old.now.read) old (leaves_here (Torn at n old.now.read) old.now is_settled (settled_torn old.now.read old.now.read at n refl))

module _ (at l a n : ℕ) (from : at ≤ a) (to : a + n ≤ at + l) where
  outside : (i : ℕ) → (i < at) ⊎ (at + l ≤ i) → (i < a) ⊎ (a + n ≤ i)
  outside i (inl less) = inl (omega (arith, less, from))
  outside i (inr more) = inr (omega (arith, more, to))

  torn_wider : (file c : List ℕ) → Torn a n file c → Torn at l file c
  torn_wider file c torn = record {
    no_shorter = torn.no_shorter;
    no_longer = omega (arith, torn.no_longer, to);
    same = λ i below out. torn.same i below (outside i out);
  }

  pub at_wider : (old new : Moments) → AtEach (Torn a n old.now.read) old new → AtEach (Torn at l old.now.read) old new
  at_wider old new each = at_weaker (Torn a n old.now.read) (Torn at l old.now.read) old new (torn_wider old.now.read) each

module _ (at l a n b k : ℕ) (from : at ≤ a) (to : a + n ≤ at + l) (from' : at ≤ b) (to' : b + k ≤ at + l) where
  torn_twice : (file mid c : List ℕ) → Torn a n file mid → Torn b k mid c → Torn at l file c
  torn_twice file mid c one two = record {
    no_shorter = omega (arith, one.no_shorter, two.no_shorter);
    no_longer = omega (arith, one.no_longer, two.no_longer, to, to');
    same = λ i below out. two.same i (omega (arith, below, one.no_shorter)) (outside at l b k from' to' i out) ∙ one.same i below (outside at l a n from to i out);
  }

  pub at_twice : (old mid new : Moments) → AtEach (Torn a n old.now.read) old mid → AtEach (Torn b k mid.now.read) mid new → AtEach (Torn at l old.now.read) old new
  at_twice old mid new first second =
      at_both (Torn at l old.now.read) old mid new (at_wider at l a n from to old mid first)
      (at_weaker (Torn b k mid.now.read) (Torn at l old.now.read) mid new
      (λ c torn. torn_twice old.now.read mid.now.read c (at_now (Torn a n old.now.read) old mid first).read torn) second)

-- a piece, and then the byte before it
module _ (file : List ℕ) (at : ℕ) (some : at + 1 ≤ length file) (bytes : List ℕ) (x : ℕ) where
  abbrev pre : List ℕ
  pre = take at file

  abbrev y : ℕ
  y = get_or file at 0

  abbrev rest : List ℕ
  rest = drop (at + 1) file

  abbrev after : List ℕ
  after = bytes ++ drop (length bytes) rest

  pre_is : length pre ≡ at
  pre_is = length-take-le at file (omega (arith, some))

  split : file ≡ pre ++ y ∷ rest
  split = sym (take-append-drop at file) ∙ ap (λ (l : List ℕ). pre ++ l) (drop_more file at 0 (omega (arith, some)))

  pub first : overlaid file (at + 1) bytes ≡ pre ++ y ∷ after
  first =
      ap (λ (l : List ℕ). overlaid l (at + 1) bytes) (split ∙ sym (append_assoc pre (y ∷ []) rest))
      ∙ overlaid_behind (pre ++ y ∷ []) (at + 1) (omega (arith, length-append pre (y ∷ []), pre_is)) rest bytes
      ∙ append_assoc (pre ++ y ∷ []) bytes (drop (length bytes) rest)
      ∙ append_assoc pre (y ∷ []) after

  pub overlaid_twice : overlaid (overlaid file (at + 1) bytes) at (x ∷ []) ≡ overlaid file at (x ∷ bytes)
  overlaid_twice =
      ap (λ (l : List ℕ). overlaid l at (x ∷ [])) first
      ∙ overlaid_behind pre at pre_is (y ∷ after) (x ∷ [])
      ∙ append_assoc pre (x ∷ []) after
      ∙ sym (append_assoc pre (x ∷ bytes) (drop (length bytes) rest))
      ∙ sym (overlaid_behind pre at pre_is (y ∷ rest) (x ∷ bytes))
      ∙ ap (λ (l : List ℕ). overlaid l at (x ∷ bytes)) (sym split)

  -- the piece lies there then
  pub lies_behind : drop (at + 1) (overlaid file (at + 1) bytes) ≡ after
  lies_behind =
      ap (drop (at + 1)) (first ∙ sym (append_assoc pre (y ∷ []) after))
      ∙ drop_at (pre ++ y ∷ []) after (at + 1) (omega (arith, length-append pre (y ∷ []), pre_is))

  -- a piece, and then all of it again, with the byte before it and more after it
  module _ (more : List ℕ) where
    abbrev all : List ℕ
    all = bytes ++ more

    left : drop (length all) after ≡ drop (length all) rest
    left =
        ap (λ (n : ℕ). drop n after) (length-append bytes more)
        ∙ sym (drop-drop (length more) (length bytes) after)
        ∙ ap (drop (length more)) (drop_at bytes (drop (length bytes) rest) (length bytes) refl)
        ∙ drop-drop (length more) (length bytes) rest
        ∙ ap (λ (n : ℕ). drop n rest) (sym (length-append bytes more))

    pub overlaid_again : overlaid (overlaid file (at + 1) bytes) at (x ∷ all) ≡ overlaid file at (x ∷ all)
    overlaid_again =
        ap (λ (l : List ℕ). overlaid l at (x ∷ all)) first
        ∙ overlaid_behind pre at pre_is (y ∷ after) (x ∷ all)
        ∙ ap (λ (l : List ℕ). (pre ++ (x ∷ all)) ++ l) left
        ∙ sym (overlaid_behind pre at pre_is (y ∷ rest) (x ∷ all))
        ∙ ap (λ (l : List ℕ). overlaid l at (x ∷ all)) (sym split)

-- a piece over bytes that are the same
pub overlaid_same : (file bytes : List ℕ) (at : ℕ) → at ≤ length file → LieAt at bytes file → overlaid file at bytes ≡ file
overlaid_same file bytes at within lie =
    let pre = take at file in
    let split : file ≡ pre ++ (bytes ++ lie.0) = sym (take-append-drop at file) ∙ ap (λ (l : List ℕ). pre ++ l) lie.1 in
    ap (λ (l : List ℕ). overlaid l at bytes) split
    ∙ overlaid_behind pre at (length-take-le at file within) (bytes ++ lie.0) bytes
    ∙ ap (λ (l : List ℕ). (pre ++ bytes) ++ l) (drop_at bytes lie.0 (length bytes) refl)
    ∙ append_assoc pre bytes lie.0
    ∙ sym split

-- a byte that is written over
pub overlaid_over : (file bytes : List ℕ) (x y : ℕ) → overlaid (overlaid file 0 (y ∷ [])) 0 (x ∷ bytes) ≡ overlaid file 0 (x ∷ bytes)
overlaid_over file bytes x y =
    let e : 1 + length bytes ≡ suc (length bytes) = omega arith in
    ap (λ (l : List ℕ). overlaid l 0 (x ∷ bytes)) (overlaid_behind [] 0 refl file (y ∷ []))
    ∙ overlaid_behind [] 0 refl (y ∷ drop 1 file) (x ∷ bytes)
    ∙ ap (λ (l : List ℕ). (x ∷ bytes) ++ l) (drop-drop (length bytes) 1 file ∙ ap (λ (n : ℕ). drop n file) e)
    ∙ sym (overlaid_behind [] 0 refl file (x ∷ bytes))

-- the two writes, one after the other
pub at_stages : (gate : ℕ) (bytes : List ℕ) (old mid new : Moments) → AtEach (Torn (gate + 1) (length bytes) old.now.read) old mid
    → mid.now ≡ settled (overlaid old.now.read (gate + 1) bytes) → AtEach (Torn gate 1 mid.now.read) mid new → AtEach (IsStage gate bytes old.now.read) old new
at_stages gate bytes old mid new first mid_is second =
    let P = IsStage gate bytes old.now.read in
    let mid_read : mid.now.read ≡ overlaid old.now.read (gate + 1) bytes = ap (λ (m : Moment). m.read) mid_is in
    at_both P old mid new
    (at_weaker (Torn (gate + 1) (length bytes) old.now.read) P old mid (λ c torn. inl torn) first)
    (at_weaker (Torn gate 1 mid.now.read) P mid new (λ c torn. inr (subst (λ (f : List ℕ). Torn gate 1 f c) mid_read torn)) second)
