-- A piece of no more bytes than the next frame needs makes at most that frame whole.
use Rattle.std.proofs.Common.{◌≡◌, ◌⊎◌, inl, inr, ⊎_elim, ℕ, ◌+◌, ◌-◌, ◌≤◌, Bool, cond, List, [], ◌∷◌, ◌++◌, length, refl, sym, ◌∙◌, ap, subst, arith, append_assoc, length-append}
use Rattle.std.specs.Prelude.{Option, Some, None, MatchOption}
use Rattle.std.proofs.lemmas.Bool.{cases_lt, lt-ltb, le-ltb}
use Rattle.std.proofs.lemmas.List.{take-append-le}
use Rattle.byte_numbers.specs.Spelling.{big_number}
use Rattle.byte_numbers.proofs.Spelled.{read_back}
use Rattle.std.specs.List.{flat_map}
use Rattle.report_wire.specs.declared.frames.WireKind.{WireKind}
use Rattle.report_wire.specs.declared.frames.WireKind.TheVariants.{TooLong, UnknownKind, BadPayload}
use Rattle.report_wire.specs.Frames.{Direction, Sent, IsPartial, IsFault, Reads, spelled, stream_of, length_at}
use Rattle.report_wire.specs.Reading.{needs_of}

empty_stream : (ms : List Sent) (rest : List ℕ) → length (stream_of ms rest) ≡ 0 → (ms ≡ []) × (rest ≡ [])
empty_stream [] [] h = (refl, refl)
empty_stream [] (x ∷ rest) h = absurd (omega arith)
empty_stream (m ∷ ms) rest h = absurd (omega (arith, h, ap length (append_assoc (spelled m) (flat_map spelled ms) rest), length-append (spelled m) (flat_map spelled ms ++ rest)))

few_enough : (rest : List ℕ) (piece size : ℕ) → piece ≤ needs_of rest → (5 ≤ length rest → (length rest ≤ 5 + length_at rest) × (length_at rest ≡ size)) → length rest + piece ≤ 5 + size
few_enough rest piece size le long =
    ⊎_elim
    (λ e. let n = ap (λ (b : Bool). cond b (5 - length rest) (5 + length_at rest - length rest)) (lt-ltb (length rest) 5 e) in omega (arith, n, le, e))
    (λ e. let n = ap (λ (b : Bool). cond b (5 - length rest) (5 + length_at rest - length rest)) (le-ltb (length rest) 5 e) in let l = long e in let a = l.0 in let b = l.1 in omega (arith, n, le, e, a, b))
    (cases_lt (length rest) 5)

no_empty_fault : (d : Direction) (f : WireKind) → IsFault d f [] → ⊥
no_empty_fault d (TooLong n) h = omega (arith, h.0)
no_empty_fault d (UnknownKind k) h = omega (arith, h.0)
no_empty_fault d (BadPayload k n) h = omega (arith, h.0.head)

clean : (d : Direction) (o : Option WireKind) → MatchOption o (IsPartial d []) (λ f. IsFault d f []) → o ≡ None
clean d None h = refl
clean d (Some f) h = absurd (no_empty_fault d f h)

pub one_at_most : (d : Direction) (rest piece : List ℕ) (frames : List Sent) (after : List ℕ) (fault : Option WireKind) → IsPartial d rest → length piece ≤ needs_of rest → Reads d (rest ++ piece) frames after fault
    → (frames ≡ []) ⊎ ((m : Sent) × (frames ≡ m ∷ []) × (after ≡ []) × (fault ≡ None))
one_at_most d rest piece [] after fault partial le reads = inl refl
one_at_most d rest piece (m ∷ ms) after fault partial le reads =
    let whole : rest ++ piece ≡ spelled m ++ stream_of ms after = reads.whole ∙ append_assoc (spelled m) (flat_map spelled ms) after in
    let short = reads.each.0.short in
    let size : length_at (spelled m ++ stream_of ms after) ≡ length m.payload = read_back 4 (length m.payload) (omega (arith, short)) in
    let long : 5 ≤ length rest → (length rest ≤ 5 + length_at rest) × (length_at rest ≡ length m.payload) = λ e. (
      ⊎_elim (λ p. absurd (omega (arith, p, e))) (λ p. ⊎_elim (λ q. let q0 = q.0 in absurd (omega (arith, q0, e))) (λ q. let q2 = q.2 in omega (arith, q2)) p) partial,
      ap (big_number 4) (sym (take-append-le 4 rest piece (omega (arith, e)))) ∙ ap length_at whole ∙ size,
    ) in
    let few = few_enough rest (length piece) (length m.payload) le long in
    let lengths = ap length whole in
    let a = length-append rest piece in
    let b = length-append (spelled m) (stream_of ms after) in
    let none : length (stream_of ms after) ≡ 0 = omega (arith, few, lengths, a, b) in
    let e = empty_stream ms after none in
    inr (m, (λ i. m ∷ e.0 i), e.1, clean d fault (subst (λ (l : List ℕ). MatchOption fault (IsPartial d l) (λ f. IsFault d f l)) e.1 reads.ends))
