-- The payload of one number, and of one place.
use Rattle.std.proofs.Common.{◌≡◌, ℕ, zero, suc, ◌+◌, ◌-◌, ◌*◌, ◌≤◌, min, List, [], ◌∷◌, ◌++◌, length, take, drop, Some, None, refl, sym, ◌∙◌, ap, subst, arith, length-drop}
use Rattle.std.proofs.lemmas.List.{take_at, take_all, length-take}
use Rattle.std.proofs.lemmas.Option.{slice_get-map}
use Rattle.std.specs.List.{slice_get}
use Rattle.std.specs.Option.{option_map}
use Rattle.lot_base.specs.declared.limits.TheConstants.{GREATEST_PAYLOAD}
use Rattle.report_journal.specs.Journals.{payload_at, payloads_at, ArePlaced}
use Rattle.report_journal.specs.Scans.{FollowFrom, gate_after}
use Rattle.report_journal.specs.declared.places.Place.{Place}

-- a place that was read whole into a buffer of its length
pub read_back : (file : List ℕ) (place : Place) (len n : ℕ) (into rest : List ℕ) → length (payload_at file place) ≡ place.length
    → len ≡ place.length → length into ≡ place.length → n ≡ min place.length (length file - place.at)
    → take n into ≡ take n (drop place.at file) → take len (into ++ rest) ≡ payload_at file place
read_back file place len n into rest whole len_is into_is size same =
    let all_read : n ≡ place.length = omega (arith, whole, length-take place.length (drop place.at file), length-drop place.at file, size) in
    take_at into rest len (omega (arith, into_is, len_is))
    ∙ sym (take_all n into (omega (arith, into_is, all_read)))
    ∙ same
    ∙ ap (λ (k : ℕ). take k (drop place.at file)) all_read

-- the payload of this number lies at the place of this number, and is as long as the place
pub nth_payload : (file : List ℕ) (places : List Place) (i : ℕ) (place : Place) → slice_get places i ≡ Some place → slice_get (payloads_at file places) i ≡ Some (payload_at file place)
nth_payload file places i place is = slice_get-map (payload_at file) places i ∙ ap (option_map (payload_at file)) is

pub nth_length : (file : List ℕ) (gate : ℕ) (places : List Place) (i : ℕ) (place : Place) → ArePlaced gate places (payloads_at file places) → slice_get places i ≡ Some place
    → length (payload_at file place) ≡ place.length
nth_length file gate [] i place are is = absurd (let e : None ≡ Some place = is in cc e)
nth_length file gate (q ∷ places) zero place are is =
    let same : q ≡ place = cc is in
    let P : Place → Type 0 = λ p. length (payload_at file p) ≡ p.length in
    subst P same (sym are.1)
nth_length file gate (q ∷ places) (suc i) place are is = nth_length file (gate + 5 + length (payload_at file q)) places i place are.2 is

-- one more record after those that follow one another
pub follow_push : (places : List Place) (place : Place) (gate : ℕ) → FollowFrom gate places → place.at ≡ gate_after gate places + 5 → place.length ≤ GREATEST_PAYLOAD → FollowFrom gate (places ++ place ∷ [])
follow_push [] place gate follow at short = (at, short, tt)
follow_push (p ∷ places) place gate follow at short = (follow.0, follow.1, follow_push places place (gate + 5 + p.length) follow.2 at short)

pub after_push : (places : List Place) (place : Place) (gate : ℕ) → gate_after gate (places ++ place ∷ []) ≡ gate_after gate places + 5 + place.length
after_push [] place gate = refl
after_push (p ∷ places) place gate = after_push places place (gate + 5 + p.length)

-- each record takes five bytes at least
pub after_roomy : (places : List Place) (gate : ℕ) → gate + 5 * length places ≤ gate_after gate places
after_roomy [] gate = omega arith
after_roomy (p ∷ places) gate = omega (arith, after_roomy places (gate + 5 + p.length))
