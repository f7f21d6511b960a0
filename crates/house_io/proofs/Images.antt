-- What a crash may leave: the file of the last sync, and an image with other bytes in a range that was written.
use Rattle.std.proofs.Common.{◌≡◌, ◌⊎◌, inl, inr, ⊎_elim, ℕ, zero, suc, ◌+◌, ◌<◌, ◌≤◌, List, [], ◌∷◌, ◌++◌, length, get_or, replicate, refl, ap, ◌∙◌, subst, arith}
use Rattle.house_io.specs.Moments.{Moment, IsImage, IsOutside, Torn, end_of, overlaid}
use Rattle.house_io.specs.Ranges.{latest_first}
use Rattle.house_io.specs.Fills.{filled_with}
use Rattle.house_io.specs.declared.memory.recorded_file.Range.{Range}

no_shorter_end : (n : ℕ) (ranges : List (ℕ × ℕ)) → n ≤ end_of n ranges
no_shorter_end n [] = omega arith
no_shorter_end n (r ∷ ranges) = omega (arith, no_shorter_end n ranges)

pub image_synced : (m : Moment) → IsImage m m.synced
image_synced m = record { no_shorter = omega arith; no_longer = no_shorter_end (length m.synced) m.ranges; same = λ i below outside. refl }

-- one more range
pub latest-push : (ranges : List Range) (others : List (ℕ × ℕ)) (range : Range) → latest_first (ranges ++ range ∷ []) others ≡ (range.at, range.length) ∷ latest_first ranges others
latest-push [] others range = refl
latest-push (r ∷ ranges) others range = latest-push ranges ((r.at, r.length) ∷ others) range

-- one more range is filled
pub filled-push : (byte : ℕ) (ranges : List Range) (range : Range) (file : List ℕ)
    → filled_with byte (latest_first (ranges ++ range ∷ []) []) file ≡ overlaid (filled_with byte (latest_first ranges []) file) range.at (replicate range.length byte)
filled-push byte ranges range file = ap (λ (rs : List (ℕ × ℕ)). filled_with byte rs file) (latest-push ranges [] range)

-- a range of this offset and length is one of these
abbrev pub Has : List (ℕ × ℕ) → ℕ → ℕ → Type 0
Has [] at n = ⊥
Has (r ∷ rs) at n = ((r.0 ≡ at) × (r.1 ≡ n)) ⊎ Has rs at n

has_later : (ranges : List Range) (others : List (ℕ × ℕ)) (at n : ℕ) → Has others at n → Has (latest_first ranges others) at n
has_later [] others at n has = has
has_later (r ∷ ranges) others at n has = has_later ranges ((r.at, r.length) ∷ others) at n (inr has)

pub has_at : (ranges : List Range) (others : List (ℕ × ℕ)) (i : ℕ) (d : Range) → i < length ranges → Has (latest_first ranges others) (get_or ranges i d).at (get_or ranges i d).length
has_at [] others i d below = absurd (omega arith)
has_at (r ∷ ranges) others zero d below = has_later ranges ((r.at, r.length) ∷ others) r.at r.length (inl (refl, refl))
has_at (r ∷ ranges) others (suc i) d below = has_at ranges ((r.at, r.length) ∷ others) i d (omega arith)

-- a range of those that a moment has
pub has_in : (ranges : List Range) (moment : List (ℕ × ℕ)) (i : ℕ) (d : Range) → i < length ranges → latest_first ranges [] ≡ moment → Has moment (get_or ranges i d).at (get_or ranges i d).length
has_in ranges moment i d below is =
    let P : List (ℕ × ℕ) → Type 0 = λ rs. Has rs (get_or ranges i d).at (get_or ranges i d).length in
    subst P is (has_at ranges [] i d below)

has_end : (moment : List (ℕ × ℕ)) (at n long : ℕ) → Has moment at n → at + n ≤ end_of long moment
has_end [] at n long has = absurd has
has_end (r ∷ moment) at n long (inl here) = omega (arith, here)
has_end (r ∷ moment) at n long (inr there) = omega (arith, has_end moment at n long there)

has_outside : (moment : List (ℕ × ℕ)) (at n i : ℕ) → Has moment at n → IsOutside i moment → (i < at) ⊎ (at + n ≤ i)
has_outside [] at n i has outside = absurd has
has_outside (r ∷ moment) at n i (inl here) outside = ⊎_elim (λ before. inl (omega (arith, before, here))) (λ behind. inr (omega (arith, behind, here))) outside.0
has_outside (r ∷ moment) at n i (inr there) outside = has_outside moment at n i there outside.1

-- an image in which other bytes stand in a range that was written
pub image_torn_again : (m : Moment) (image other : List ℕ) (at n : ℕ) → IsImage m image → Has m.ranges at n → Torn at n image other → IsImage m other
image_torn_again m image other at n is has torn = record {
  no_shorter = omega (arith, is.no_shorter, torn.no_shorter);
  no_longer = omega (arith, is.no_longer, torn.no_longer, has_end m.ranges at n (length m.synced) has);
  same = λ i below outside. torn.same i (omega (arith, below, is.no_shorter)) (has_outside m.ranges at n i has outside) ∙ is.same i below outside;
}
