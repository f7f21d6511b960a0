-- A frame more of a stream.
use Rattle.std.proofs.Common.{◌≡◌, ℕ, ◌+◌, ◌≤◌, List, [], ◌∷◌, ◌++◌, length, drop, sym, ◌∙◌, ap, subst, arith, length-append, length-drop, map}
use Rattle.std.proofs.lemmas.List.{drop-drop, append-nil, map-append}
use Rattle.std.specs.List.{AllByRecursion, flat_map}
use Rattle.report_wire.specs.Frames.{Direction, Sent, IsSent, spelled, spelling, stream_of}
use Rattle.report_wire.specs.Reading.{IsFound, sent_of}
use Rattle.report_wire.specs.declared.readers.Found.TheVariants.{Message}
use Rattle.report_wire.proofs.Streams.{stream_on, all-append}

module _ {M : Type 0} (d : Direction) (kind_of : M → ℕ) (payload_of : M → List ℕ) (messages : List M) (at size : ℕ) (bytes : List ℕ) (message : M)
    (whole : bytes ≡ stream_of (map (sent_of kind_of payload_of) messages) (drop at bytes)) (within : at ≤ length bytes)
    (found : IsFound d kind_of payload_of (Message message size) (drop at bytes)) where
  pushed : map (sent_of kind_of payload_of) (messages ++ message ∷ []) ≡ map (sent_of kind_of payload_of) messages ++ sent_of kind_of payload_of message ∷ []
  pushed = map-append (sent_of kind_of payload_of) messages (message ∷ [])

  pub goes_on : bytes ≡ stream_of (map (sent_of kind_of payload_of) (messages ++ message ∷ [])) (drop (at + size) bytes)
  goes_on =
      whole ∙ ap (λ (l : List ℕ). stream_of (map (sent_of kind_of payload_of) messages) l) (found.3 ∙ ap (λ (l : List ℕ). spelling (kind_of message) (payload_of message) ++ l) (drop-drop size at bytes))
      ∙ ap (λ (l : List ℕ). stream_of (map (sent_of kind_of payload_of) messages) l) (ap (λ (l : List ℕ). l ++ drop (at + size) bytes) (sym (append-nil (spelling (kind_of message) (payload_of message)))))
      ∙ sym (stream_on (map (sent_of kind_of payload_of) messages) (sent_of kind_of payload_of message ∷ []) (drop (at + size) bytes))
      ∙ ap (λ (l : List Sent). stream_of l (drop (at + size) bytes)) (sym pushed)

  pub longer : length (stream_of (map (sent_of kind_of payload_of) messages) []) ≡ at → length (stream_of (map (sent_of kind_of payload_of) (messages ++ message ∷ [])) []) ≡ at + size
  longer long = omega (
    arith,
    ap (λ (l : List Sent). length (stream_of l [])) pushed,
    ap length (stream_on (map (sent_of kind_of payload_of) messages) (sent_of kind_of payload_of message ∷ []) []),
    length-append (flat_map spelled (map (sent_of kind_of payload_of) messages)) (stream_of (sent_of kind_of payload_of message ∷ []) []),
    length-append (flat_map spelled (map (sent_of kind_of payload_of) messages)) [],
    ap length (append-nil (spelling (kind_of message) (payload_of message) ++ [])),
    ap length (append-nil (spelling (kind_of message) (payload_of message))),
    found.1,
    long,
  )

  pub within_still : at + size ≤ length bytes
  within_still = omega (arith, within, found.2, length-drop at bytes)

  pub some : 5 ≤ size
  some = omega (arith, found.1)

  pub each_still : AllByRecursion (IsSent d) (map (sent_of kind_of payload_of) messages) → AllByRecursion (IsSent d) (map (sent_of kind_of payload_of) (messages ++ message ∷ []))
  each_still each = subst (AllByRecursion (IsSent d)) (sym pushed) (all-append (IsSent d) (map (sent_of kind_of payload_of) messages) (sent_of kind_of payload_of message ∷ []) each (found.0, tt))
