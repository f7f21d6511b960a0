-- What an append leaves that wrote nothing, and one that put its record.
use Rattle.std.proofs.Common.{◌≡◌, inl, Bool, IsTrue, ℕ, ◌+◌, List, [], length, refl, subst, arith}
use Rattle.std.specs.Prelude.{Err}
use Rattle.house_io.specs.Disks.{DiskShown, is_told, told_moments}
use Rattle.house_io.specs.Moments.{Moments, AtEach, Torn}
use Rattle.report_journal.specs.declared.faults.JournalFault.{JournalFault}
use Rattle.report_journal.specs.Calls.{Writes, AppendLeaves}
use Rattle.report_journal.specs.Format.{Contents}
use Rattle.report_journal.specs.Journals.{JournalOf, IsKept}
use Rattle.report_journal.specs.Padding.{behind_of, put_of}
use Rattle.report_journal.specs.Puts.{IsAsked, IsBeforeOrAfter, Takes}
use Rattle.report_journal.proofs.Kept.{nothing_done, nothing_written}
use Rattle.report_journal.proofs.Rooms.{filled-length}

-- who is refused before the first write has not asked, and has written nothing
pub untouched : {D : Type 0} (shown : D → DiskShown) (says : List ℕ → Type 0) (payload : List ℕ) (fault : JournalFault) (j : JournalOf D)
    → (IsTrue (is_told (shown j.disk)) → IsKept j.contents j.places j.end j.pending (told_moments (shown j.disk)))
    → (next : List ℕ) × IsAsked {T = ℕ} says next (Err fault) × Writes shown payload next j j (Err fault)
untouched shown says payload fault j kept = (
  [],
  inl refl,
  record {
    laid = refl;
    end = λ told. refl;
    leaves = λ none told. record {
      stand = nothing_done j.contents j.places j.end j.pending (told_moments (shown j.disk)) (kept told) none payload;
      range = nothing_written j.contents j.places j.end j.pending (told_moments (shown j.disk)) (kept told) none _ _;
    };
  },
)

-- who put a record has changed no byte but those of the record and of what is after it, whether it went well or not
pub put_leaves : (payload next : List ℕ) (gate laid : ℕ) (x : Contents) (old new : Moments) → Takes x payload gate old.now.read
    → ((y : Contents) → Takes y payload gate old.now.read → AtEach (IsBeforeOrAfter y payload) old new)
    → AtEach (Torn gate (1 + length (put_of gate laid payload next)) old.now.read) old new
    → AppendLeaves payload (behind_of gate laid payload next) x gate old new
put_leaves payload next gate laid x old new takes stand range =
    let behind = behind_of gate laid payload next in
    let long : 1 + length (put_of gate laid payload next) ≡ 6 + length payload + length behind = omega (arith, filled-length payload (put_of gate laid payload next) behind refl) in
    record {
      stand = stand x takes;
      range = subst (λ (n : ℕ). AtEach (Torn gate n old.now.read) old new) long range;
    }
