-- Putting a record in two steps: its bytes, and then its gate with what is after it.
use Rattle.std.proofs.Common.{◌≡◌, inl, inr, ℕ, ◌+◌, ◌≤◌, List, [], ◌∷◌, ◌++◌, length, drop, refl, sym, ◌∙◌, ap, arith, append_assoc, length-append}
use Rattle.std.specs.Prelude.{Result, Ok, Err, IsErr, OnOk}
use Rattle.house_io.specs.Moments.{Moment, Moments, Torn, overlaid, settled, AtEach}
use Rattle.house_io.proofs.Moments.{at_both, at_weaker}
use Rattle.report_journal.specs.declared.spellings.TheConstants.{OPEN}
use Rattle.report_journal.specs.Format.{Contents, body}
use Rattle.report_journal.specs.Puts.{HasRecord, LieAt, IsAsked, Takes, IsBeforeOrAfter}
use Rattle.report_journal.proofs.Ahead.{closed, closed-first}
use Rattle.report_journal.proofs.Records.{torn_body}
use Rattle.report_journal.proofs.Spans.{lies_behind, overlaid_again, at_wider, at_twice}

-- who failed before may not have asked
pub err_asks : {T E : Type 0} (says : List ℕ → Type 0) (r : Result T E) → IsErr r → IsAsked says [] r
err_asks says (Ok answer) is = absurd (cc is)
err_asks says (Err fault) is = inl refl

pub err_done : {T E : Type 0} (P : Type 0) (r : Result T E) → IsErr r → OnOk r P
err_done P (Ok answer) is = absurd (cc is)
err_done P (Err fault) is = tt

-- who asked may fail after it
pub has_asked : {T E : Type 0} (says : List ℕ → Type 0) (next : List ℕ) (r : Result T E) → says next → IsAsked says next r
has_asked says next (Ok answer) said = said
has_asked says next (Err fault) said = inr said

pub done_too : {T E : Type 0} (P : Type 0) (r : Result T E) → P → OnOk r P
done_too P (Ok answer) is = is
done_too P (Err fault) is = tt

module _ (payload : List ℕ) (gate : ℕ) where
  -- a record that lies there has its bytes there
  pub lie_there : (file : List ℕ) → HasRecord payload (drop (gate + 1) file) → LieAt (gate + 1) (closed payload) file
  lie_there file has = (has.0, closed-first payload (drop (gate + 1) file) has)

  -- and its bytes, once they are written, are the record
  pub there_now : (file : List ℕ) → gate + 1 ≤ length file → HasRecord payload (drop (gate + 1) (overlaid file (gate + 1) (closed payload)))
  there_now file some =
      let rest = drop (length (closed payload)) (drop (gate + 1) file) in
      (rest, lies_behind file gate some (closed payload) OPEN ∙ append_assoc (body payload) (0 ∷ []) rest)

  -- a record may still be put while its bytes are written after the gate
  pub takes_still : (x : Contents) (file c : List ℕ) → Takes x payload gate file → Torn (gate + 1) (length (closed payload)) file c → Takes x payload gate c
  takes_still x file c takes torn = record { stands = torn_body x payload gate (closed payload) file ([], refl) takes c torn; at = takes.at; fits = takes.fits }

  module _ (old mid : Moments) (first : AtEach (Torn (gate + 1) (length (closed payload)) old.now.read) old mid) where
    -- the first step alone
    pub first_stands : (x : Contents) → Takes x payload gate old.now.read → AtEach (IsBeforeOrAfter x payload) old mid
    first_stands x takes =
        at_weaker (Torn (gate + 1) (length (closed payload)) old.now.read) (IsBeforeOrAfter x payload) old mid
        (λ c torn. inl (torn_body x payload gate (closed payload) old.now.read ([], refl) takes c torn)) first

    module _ (behind : List ℕ) where
      abbrev bytes : List ℕ
      bytes = body payload ++ 0 ∷ behind

      long : length bytes ≡ length (closed payload) + length behind
      long = omega (arith, length-append (body payload) (0 ∷ behind), length-append (body payload) (0 ∷ []))

      pub first_range : AtEach (Torn gate (1 + length bytes) old.now.read) old mid
      first_range = at_wider gate (1 + length bytes) (gate + 1) (length (closed payload)) (omega arith) (omega (arith, long)) old mid first

      -- both steps
      module _ (new : Moments) where
        pub both_stand : (x : Contents) → (takes : Takes x payload gate old.now.read) → AtEach (IsBeforeOrAfter x payload) mid new → AtEach (IsBeforeOrAfter x payload) old new
        both_stand x takes second = at_both (IsBeforeOrAfter x payload) old mid new (first_stands x takes) second

        pub both_range : AtEach (Torn gate (1 + length bytes) mid.now.read) mid new → AtEach (Torn gate (1 + length bytes) old.now.read) old new
        both_range second =
            at_twice gate (1 + length bytes) (gate + 1) (length (closed payload)) gate (1 + length bytes) (omega arith) (omega (arith, long)) (omega arith) (omega arith) old mid new first second

        pub both_done : gate + 1 ≤ length old.now.read → mid.now ≡ settled (overlaid old.now.read (gate + 1) (closed payload)) → new.now ≡ settled (overlaid mid.now.read gate (OPEN ∷ bytes))
            → new.now ≡ settled (overlaid old.now.read gate (OPEN ∷ bytes))
        both_done some mid_is done =
            done
            ∙ ap (λ (m : Moment). settled (overlaid m.read gate (OPEN ∷ bytes))) mid_is
            ∙ ap (λ (l : List ℕ). settled (overlaid (overlaid old.now.read (gate + 1) (closed payload)) gate (OPEN ∷ l))) (sym grouped)
            ∙ ap settled (overlaid_again old.now.read gate some (closed payload) OPEN behind)
            ∙ ap (λ (l : List ℕ). settled (overlaid old.now.read gate (OPEN ∷ l))) grouped
          where
            grouped : closed payload ++ behind ≡ bytes
            grouped = append_assoc (body payload) (0 ∷ []) behind
