-- A gate that is open, and is opened once more.
use Rattle.std.proofs.Common.{◌≡◌, inl, inr, ℕ, ◌+◌, ◌≤◌, List, [], ◌∷◌, ◌++◌, length, get_or, drop, refl, sym, ◌∙◌, ap, subst, arith, append_assoc, length-append}
use Rattle.std.proofs.lemmas.Bool.{cases_eq}
use Rattle.std.proofs.lemmas.List.{drop_more}
use Rattle.std.specs.List.{AllByRecursion}
use Rattle.house_io.specs.Moments.{Moments, Torn, overlaid, settled, synced_at, AtEach}
use Rattle.house_io.proofs.Moments.{at_start, leaves_settled, settled_torn}
use Rattle.report_journal.specs.declared.spellings.TheConstants.{OPEN}
use Rattle.report_journal.specs.Format.{Contents, Fits, IsPayload, StandsFor, body, front}
use Rattle.report_journal.specs.Puts.{IsBeforeOrAfter, with_one_more}
use Rattle.report_journal.proofs.Files.{torn_one}
use Rattle.report_journal.proofs.Records.{front-push}
use Rattle.report_journal.proofs.Spans.{overlaid_same}

-- the payloads before one
all_before : (payloads : List (List ℕ)) (payload : List ℕ) → AllByRecursion IsPayload (payloads ++ payload ∷ []) → AllByRecursion IsPayload payloads
all_before [] payload all = tt
all_before (p ∷ payloads) payload all = (all.0, all_before payloads payload all.1)

fits_before : (x : Contents) (payload : List ℕ) → Fits (with_one_more x payload) → Fits x
fits_before x payload fits = record {
  header = fits.header;
  payloads = all_before x.payloads payload fits.payloads;
  end = omega (arith, fits.end, ap length (front-push x payload), length-append (front x) (OPEN ∷ body payload));
}

-- whatever a write of the gate's byte leaves, the record is there or not
pub torn_gate : (x : Contents) (payload : List ℕ) (gate : ℕ) (file c : List ℕ) → length (front x) ≡ gate → StandsFor (with_one_more x payload) file → Torn gate 1 file c → IsBeforeOrAfter x payload c
torn_gate x payload gate file c at after torn =
    let rest : List ℕ = body payload ++ after.gate ∷ after.free in
    let is : file ≡ front x ++ OPEN ∷ rest = after.whole ∙ ap (λ (l : List ℕ). l ++ after.gate ∷ after.free) (front-push x payload) ∙ append_assoc (front x) (OPEN ∷ body payload) (after.gate ∷ after.free) in
    let y : ℕ = get_or c gate 0 in
    let split : c ≡ front x ++ y ∷ rest = torn_one (front x) gate at OPEN rest c (subst (λ (f : List ℕ). Torn gate 1 f c) is torn) in
    elim (cases_eq y OPEN) [
      | inl is_open ↦ inr (subst (StandsFor (with_one_more x payload)) (is ∙ ap (λ (z : ℕ). front x ++ z ∷ rest) (sym is_open) ∙ sym split) after)
      | inr shut ↦ inl (record { gate = y; free = rest; whole = split; shut = shut; fits = fits_before x payload after.fits })
    ]

-- a byte that is written once more is the same
pub same_again : (file : List ℕ) (gate : ℕ) → gate + 1 ≤ length file → get_or file gate 0 ≡ OPEN → overlaid file gate (OPEN ∷ []) ≡ file
same_again file gate within is_open =
    overlaid_same file (OPEN ∷ []) gate (omega (arith, within)) (drop (gate + 1) file, drop_more file gate 0 (omega (arith, within)) ∙ ap (λ (z : ℕ). z ∷ drop (gate + 1) file) is_open)

-- a sync alone
pub rests : (gate : ℕ) (old : Moments) → AtEach (Torn gate 1 old.now.read) (synced_at old) (synced_at old)
rests gate old =
    let P = Torn gate 1 old.now.read in
    at_start P (synced_at old) (leaves_settled P old.now.read (settled_torn old.now.read old.now.read gate 1 refl))
