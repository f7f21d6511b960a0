-- What a window has of a file.
use Rattle.std.proofs.Common.{◌≡◌, ◌≤◌, ℕ, ◌+◌, ◌-◌, List, length, take, drop, sym, ◌∙◌, ap, arith}
use Rattle.std.proofs.lemmas.List.{drop-take, take-take, length-take}
use Rattle.report_journal.specs.Journals.{payload_at}
use Rattle.report_journal.specs.Scans.{IsChunk}
use Rattle.report_journal.specs.declared.places.Place.{Place}
use Rattle.report_journal.proofs.Chunked.{chunk_after}
use Rattle.recovery.specs.Streams.{WindowOf, IsWindow, Covers}

-- bytes of a front are bytes of the whole
front-part : (buffer : List ℕ) (start n filled : ℕ) → start + n ≤ filled → take n (drop start (take filled buffer)) ≡ take n (drop start buffer)
front-part buffer start n filled room =
    let rest = filled - start in
    let split : filled ≡ start + rest = omega (arith, room) in
    ap (λ (k : ℕ). take n (drop start (take k buffer))) split
    ∙ ap (λ (l : List ℕ). take n l) (drop-take start rest buffer)
    ∙ take-take n rest (drop start buffer) (omega (arith, room))

pub window-payload : (buffer file : List ℕ) (at filled : ℕ) (place : Place) (window : WindowOf) → at ≡ window.at → take filled buffer ≡ window.bytes → filled ≤ length buffer
    → Covers window place → IsWindow window file → take (place.at - at + place.length - (place.at - at)) (drop (place.at - at) buffer) ≡ payload_at file place
window-payload buffer file at filled place window at_is bytes_is within covers is =
    let long : length window.bytes ≡ filled = sym (ap length bytes_is) ∙ (let l = length-take filled buffer in omega (arith, l, within)) in
    let begins = covers.begins in
    let ends = covers.ends in
    let room : place.at - at + place.length ≤ filled = omega (arith, begins, ends, at_is, long) in
    let chunk : IsChunk buffer at filled file = bytes_is ∙ is ∙ ap (λ (k : ℕ). take k (drop window.at file)) long ∙ ap (λ (k : ℕ). take filled (drop k file)) (sym at_is) in
    let count : place.at - at + place.length - (place.at - at) ≡ place.length = omega arith in
    ap (λ (n : ℕ). take n (drop (place.at - at) buffer)) count
    ∙ sym (front-part buffer (place.at - at) place.length filled room)
    ∙ chunk_after buffer file at filled place.at place.length chunk (omega (arith, begins, at_is)) room
