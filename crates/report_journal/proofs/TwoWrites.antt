-- What two writes without a sync between them leave of a settled file: that of one byte, and one after it.
use Rattle.std.proofs.Common.{◌≡◌, inl, ℕ, ◌+◌, ◌<◌, ◌≤◌, List, [], ◌∷◌, ◌++◌, length, get_or, take, drop, sym, ◌∙◌, ap, subst, arith, length-append, take-append-drop}
use Rattle.std.proofs.lemmas.List.{length-take-le, get_or-take, get_or_append_left}
use Rattle.house_io.specs.Moments.{Moment, Moments, IsImage, IsSettled, Torn, overlaid, written, settled, then, Leaves, AtEach}
use Rattle.house_io.proofs.Moments.{at_weaker, at_both, at_next, at_now, leaves_settled}
use Rattle.report_journal.specs.Puts.{TornTwice}
use Rattle.report_journal.specs.declared.spellings.TheConstants.{OPEN}
use Rattle.report_journal.proofs.Files.{torn_one}
use Rattle.report_journal.proofs.Writes.{after_write}

pub image_twice : (file mid read image : List ℕ) (a n b k : ℕ) → IsImage (written b k read (written a n mid (settled file))) image → TornTwice a n b k file image
image_twice file mid read image a n b k is = record {
  no_shorter = is.no_shorter;
  no_longer = is.no_longer;
  same = λ i below one two. is.same i below (two, (one, tt));
}

-- a gate, and bytes after the record that it opens
module _ (pre mid free : List ℕ) (gate k : ℕ) (c : List ℕ) (is : length pre ≡ gate) (g : ℕ) where
  abbrev first : List ℕ
  first = pre ++ g ∷ mid

  abbrev at : ℕ
  at = gate + 1 + length mid

  size : length first ≡ at
  size = omega (arith, length-append pre (g ∷ mid), is)

  pub two_parts : TornTwice gate 1 at k (first ++ free) c → c ≡ (pre ++ get_or c gate 0 ∷ mid) ++ drop at c
  two_parts torn =
      let long : at ≤ length c = omega (arith, torn.no_shorter, length-append first free, size) in
      let whole : length (take at c) ≡ at = length-take-le at c long in
      let one : Torn gate 1 first (take at c) = record {
        no_shorter = omega (arith, whole, size);
        no_longer = omega (arith, whole, size);
        same = λ i below outside.
            let under : i < at = omega (arith, below, size) in
            get_or-take at c i 0 under
            ∙ torn.same i (omega (arith, under, length-append first free, size)) outside (inl under)
            ∙ get_or_first i (omega (arith, below));
      } in
      let there : get_or (take at c) gate 0 ≡ get_or c gate 0 = get_or-take at c gate 0 (omega arith) in
      sym (take-append-drop at c)
      ∙ ap (λ (l : List ℕ). l ++ drop at c) (torn_one pre gate is g mid (take at c) one ∙ ap (λ (y : ℕ). pre ++ y ∷ mid) there)
    where
      get_or_first : (i : ℕ) → i < length first → get_or (first ++ free) i 0 ≡ get_or first i 0
      get_or_first i below = get_or_append_left first free 0 i below

torn_first : (a n b k : ℕ) (file c : List ℕ) → Torn a n file c → TornTwice a n b k file c
torn_first a n b k file c torn = record { no_shorter = torn.no_shorter; no_longer = omega (arith, torn.no_longer); same = λ i below one two. torn.same i below one }

-- the moments of two writes and a sync on a settled file
module _ (a n b k : ℕ) (old : Moments) (is_settled : IsSettled old.now) where
  abbrev P : List ℕ → Type 0
  P = TornTwice a n b k old.now.read

  pub first_each : (mid : Moments) → AtEach (Torn a n old.now.read) old mid → AtEach P old mid
  first_each mid each = at_weaker (Torn a n old.now.read) P old mid (torn_first a n b k old.now.read) each

  -- after a first write, a second one left this
  pub second_each : (m1 : List ℕ) (mid : Moments) → mid ≡ then old (written a n m1 old.now) → AtEach P old mid → (read : List ℕ) (new : Moments) → P read → new ≡ then mid (written b k read mid.now) → AtEach P old new
  second_each m1 mid mid_is so_far read new has is =
      let twice : Leaves P (written b k read (written a n m1 old.now)) = subst (λ (m : Moment). Leaves P (written b k read (written a n m1 m))) (sym is_settled) (record { read = has; images = λ c image. image_twice old.now.read m1 read c a n b k image }) in
      let mid_now : mid.now ≡ written a n m1 old.now = ap (λ (ms : Moments). ms.now) mid_is in
      at_both P old mid new so_far (at_next P mid new (written b k read mid.now) (at_now P old mid so_far) is (subst (λ (m : Moment). Leaves P (written b k read m)) (sym mid_now) twice))

  pub synced_each : (mid new : Moments) → AtEach P old mid → new ≡ then mid (settled mid.now.read) → AtEach P old new
  synced_each mid new so_far is =
      at_both P old mid new so_far (at_next P mid new (settled mid.now.read) (at_now P old mid so_far) is (leaves_settled P mid.now.read (at_now P old mid so_far).read))

pub torn_both : (a n b k : ℕ) (file mid c : List ℕ) → Torn a n file mid → Torn b k mid c → TornTwice a n b k file c
torn_both a n b k file mid c one two = record {
  no_shorter = omega (arith, one.no_shorter, two.no_shorter);
  no_longer = omega (arith, one.no_longer, two.no_longer);
  same = λ i below out-one out-two. two.same i (omega (arith, below, one.no_shorter)) out-two ∙ one.same i below out-one;
}

-- the gate was opened, and then these bytes were written at an offset, with this left
module _ (gate from k : ℕ) (old : Moments) (is_settled : IsSettled old.now) (within : gate ≤ length old.now.read) (mid : Moments) (opened : mid ≡ then old (written gate 1 (overlaid old.now.read gate (OPEN ∷ [])) old.now)) where
  pub laid_each : (read : List ℕ) (new : Moments) → Torn from k mid.now.read read → new ≡ then mid (written from k read mid.now) → AtEach (TornTwice gate 1 from k old.now.read) old new
  laid_each read new torn is =
      let one : AtEach (Torn gate 1 old.now.read) old mid = after_write gate (OPEN ∷ []) old is_settled within mid opened in
      second_each gate 1 from k old is_settled (overlaid old.now.read gate (OPEN ∷ [])) mid opened (first_each gate 1 from k old is_settled mid one) read new
      (torn_both gate 1 from k old.now.read mid.now.read read (at_now (Torn gate 1 old.now.read) old mid one).read torn) is
