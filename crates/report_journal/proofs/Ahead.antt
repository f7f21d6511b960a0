-- A record that lies after a closed gate already: its gate alone is left to open.
use Rattle.std.proofs.Common.{◌≡◌, ◌⊎◌, inl, inr, ℕ, ◌+◌, ◌<◌, ◌≤◌, List, [], ◌∷◌, ◌++◌, length, get_or, take, drop, Option, Some, None, sym, ◌∙◌, ap, subst, arith, append_assoc, length-append, take-append-drop}
use Rattle.std.proofs.lemmas.Bool.{cases_eq}
use Rattle.std.proofs.lemmas.List.{length-take-le, length-drop, drop_at, drop_more, drop-drop}
use Rattle.byte_numbers.specs.Spelling.{big_bytes}
use Rattle.house_io.specs.Moments.{Torn, overlaid}
use Rattle.house_io.proofs.Overlays.{overlaid_behind}
use Rattle.report_journal.specs.Format.{Contents, StandsFor, body, front}
use Rattle.report_journal.specs.declared.spellings.TheConstants.{OPEN}
use Rattle.report_journal.specs.Puts.{HasRecord, Takes, TornTwice, IsBeforeOrAfter}
use Rattle.report_journal.specs.Journals.{LiesAhead, HasAhead}
use Rattle.report_journal.proofs.Records.{front-push}
use Rattle.report_journal.proofs.TwoWrites.{two_parts}

-- a record after its gate, and a closed gate
abbrev pub closed : List ℕ → List ℕ
closed payload = body payload ++ 0 ∷ []

pub closed-length : (payload : List ℕ) → length (closed payload) ≡ length payload + 5
closed-length payload = omega (arith, length-append (body payload) (0 ∷ []), length-append (big_bytes 4 (length payload)) payload)

pub closed-first : (payload bytes : List ℕ) (has : HasRecord payload bytes) → bytes ≡ closed payload ++ has.0
closed-first payload bytes has = has.1 ∙ sym (append_assoc (body payload) (0 ∷ []) has.0)

pub record-within : (payload : List ℕ) (gate : ℕ) (file : List ℕ) → gate + 1 ≤ length file → HasRecord payload (drop (gate + 1) file) → gate + 1 + (length payload + 5) ≤ length file
record-within payload gate file some has =
    omega (arith, some, length-drop (gate + 1) file, ap length (closed-first payload (drop (gate + 1) file) has), length-append (closed payload) has.0, closed-length payload)

pub behind-record : (payload bytes : List ℕ) (has : HasRecord payload bytes) → drop (length payload + 5) bytes ≡ has.0
behind-record payload bytes has = ap (drop (length payload + 5)) (closed-first payload bytes has) ∙ drop_at (closed payload) has.0 (length payload + 5) (closed-length payload)

-- what the buffer says to lie after the last gate lies there
pub ahead-there : (ahead : Option ℕ) (bytes payload : List ℕ) (end : ℕ) (file : List ℕ) → LiesAhead ahead bytes end file → HasAhead ahead bytes payload → HasRecord payload (drop (end + 1) file)
ahead-there None bytes payload end file lies has = absurd has
ahead-there (Some from) bytes payload end file lies has = (has.0 ++ lies.0, lies.1 ∙ ap (λ (l : List ℕ). l ++ lies.0) has.1 ∙ append_assoc (body payload) (0 ∷ has.0) lies.0)

-- after a record that was put lies what the buffer has after it
pub lies-behind : (x : Contents) (payload bytes : List ℕ) (end : ℕ) (old file : List ℕ) → Takes x payload end old → HasRecord payload bytes → file ≡ overlaid old end (OPEN ∷ bytes)
    → LiesAhead (Some (length payload + 5)) bytes (end + 5 + length payload) file
lies-behind x payload bytes end old file takes spelled done =
    let stands : StandsFor x old = takes.stands in
    let first : List ℕ = front x ++ OPEN ∷ closed payload in
    let rest : List ℕ = drop (length bytes) stands.free in
    let size : length first ≡ end + 5 + length payload + 1 = omega (arith, length-append (front x) (OPEN ∷ closed payload), takes.at, closed-length payload) in
    let whole : file ≡ first ++ (spelled.0 ++ rest) =
    done ∙ ap (λ (l : List ℕ). overlaid l end (OPEN ∷ bytes)) stands.whole ∙ overlaid_behind (front x) end takes.at (stands.gate ∷ stands.free) (OPEN ∷ bytes)
    ∙ ap (λ (l : List ℕ). (front x ++ OPEN ∷ l) ++ rest) (closed-first payload bytes spelled)
    ∙ ap (λ (l : List ℕ). l ++ rest) (sym (append_assoc (front x) (OPEN ∷ closed payload) spelled.0)) ∙ append_assoc first spelled.0 rest in
    (rest, ap (drop (end + 5 + length payload + 1)) whole ∙ drop_at first (spelled.0 ++ rest) (end + 5 + length payload + 1) size ∙ ap (λ (l : List ℕ). l ++ rest) (sym (behind-record payload bytes spelled)))

module _ (payload : List ℕ) (gate : ℕ) (file : List ℕ) (there : HasRecord payload (drop (gate + 1) file)) where
  -- The gate may be opened, and anything be written after the record, with one sync: what a crash leaves has the record or not.
  module _ (x : Contents) (takes : Takes x payload gate file) (from k : ℕ) (is : from ≡ gate + 1 + (length payload + 5)) where
    abbrev g : ℕ
    g = takes.stands.gate

    abbrev rest : List ℕ
    rest = there.0

    file_is : file ≡ (front x ++ g ∷ closed payload) ++ rest
    file_is =
        let first : length (front x ++ g ∷ []) ≡ gate + 1 = omega (arith, length-append (front x) (g ∷ []), takes.at) in
        let split : file ≡ (front x ++ g ∷ []) ++ takes.stands.free = takes.stands.whole ∙ sym (append_assoc (front x) (g ∷ []) takes.stands.free) in
        let free : takes.stands.free ≡ closed payload ++ rest = sym (drop_at (front x ++ g ∷ []) takes.stands.free (gate + 1) first) ∙ ap (drop (gate + 1)) (sym split) ∙ closed-first payload (drop (gate + 1) file) there in
        takes.stands.whole ∙ ap (λ (l : List ℕ). front x ++ g ∷ l) free ∙ sym (append_assoc (front x) (g ∷ closed payload) rest)

    pub opened_stage : (c : List ℕ) → TornTwice gate 1 from k file c → IsBeforeOrAfter x payload c
    opened_stage c torn =
        let where_is : from ≡ gate + 1 + length (closed payload) = omega (arith, is, closed-length payload) in
        let here = subst (λ (f : List ℕ). TornTwice gate 1 (gate + 1 + length (closed payload)) k f c) file_is (subst (λ (n : ℕ). TornTwice gate 1 n k file c) where_is torn) in
        let behind : List ℕ = drop (gate + 1 + length (closed payload)) c in
        let y : ℕ = get_or c gate 0 in
        let split : c ≡ front x ++ y ∷ (body payload ++ 0 ∷ behind) = two_parts (front x) (closed payload) rest gate k c takes.at g here ∙ grouped (front x) y (body payload) behind in
        elim (cases_eq y OPEN) [
          | inl is_open ↦ inr (record {
            gate = 0;
            free = behind;
            whole = split ∙ ap (λ (z : ℕ). front x ++ z ∷ (body payload ++ 0 ∷ behind)) is_open ∙ sym (append_assoc (front x) (OPEN ∷ body payload) (0 ∷ behind)) ∙ ap (λ (l : List ℕ). l ++ 0 ∷ behind) (sym (front-push x payload));
            shut = omega arith;
            fits = takes.fits;
          })
          | inr shut ↦ inl (record { gate = y; free = body payload ++ 0 ∷ behind; whole = split; shut = shut; fits = takes.stands.fits })
        ]
      where
        grouped : (pre : List ℕ) (y : ℕ) (mid rest : List ℕ) → (pre ++ y ∷ (mid ++ 0 ∷ [])) ++ rest ≡ pre ++ y ∷ (mid ++ 0 ∷ rest)
        grouped pre y mid rest = append_assoc pre (y ∷ (mid ++ 0 ∷ [])) rest ∙ ap (λ (l : List ℕ). pre ++ y ∷ l) (append_assoc mid (0 ∷ []) rest)

  -- the two writes are as one of the whole record
  module _ (bytes : List ℕ) (spelled : HasRecord payload bytes) (from : ℕ) (is : from ≡ gate + 1 + (length payload + 5)) where
    abbrev size : ℕ
    size = length payload + 5

    abbrev behind : List ℕ
    behind = spelled.0

    behind_is : drop size bytes ≡ behind
    behind_is = behind-record payload bytes spelled

    sizes : length bytes ≡ size + length behind
    sizes = omega (arith, ap length (closed-first payload bytes spelled), length-append (closed payload) behind, closed-length payload)

    one : (i : ℕ) → (i < gate) ⊎ (gate + (1 + length bytes) ≤ i) → (i < gate) ⊎ (gate + 1 ≤ i)
    one i (inl less) = inl less
    one i (inr more) = inr (omega (arith, more))

    two : (i : ℕ) → (i < gate) ⊎ (gate + (1 + length bytes) ≤ i) → (i < from) ⊎ (from + length (drop size bytes) ≤ i)
    two i (inl less) = inl (omega (arith, less, is))
    two i (inr more) = inr (omega (arith, more, is, sizes, ap length behind_is))

    pub range_there : (c : List ℕ) → TornTwice gate 1 from (length (drop size bytes)) file c → Torn gate (1 + length bytes) file c
    range_there c torn = record {
      no_shorter = torn.no_shorter;
      no_longer = omega (arith, torn.no_longer, is, sizes, ap length behind_is);
      same = λ i below out. torn.same i below (one i out) (two i out);
    }

    pub overlaid_there : gate + 1 ≤ length file → overlaid (overlaid file gate (OPEN ∷ [])) from (drop size bytes) ≡ overlaid file gate (OPEN ∷ bytes)
    overlaid_there some =
        let pre : List ℕ = take gate file in
        let g : ℕ = get_or file gate 0 in
        let rest : List ℕ = there.0 in
        let pre_is : length pre ≡ gate = length-take-le gate file (omega (arith, some)) in
        let file_is : file ≡ pre ++ g ∷ (closed payload ++ rest) = sym (take-append-drop gate file) ∙ ap (λ (l : List ℕ). pre ++ l) (drop_more file gate 0 (omega (arith, some))) ∙ ap (λ (l : List ℕ). pre ++ g ∷ l) (closed-first payload (drop (gate + 1) file) there) in
        let long : length (pre ++ OPEN ∷ closed payload) ≡ from = omega (arith, length-append pre (OPEN ∷ closed payload), pre_is, closed-length payload, is) in
        let opened : overlaid file gate (OPEN ∷ []) ≡ (pre ++ OPEN ∷ closed payload) ++ rest =
        ap (λ (l : List ℕ). overlaid l gate (OPEN ∷ [])) file_is ∙ overlaid_behind pre gate pre_is (g ∷ (closed payload ++ rest)) (OPEN ∷ [])
        ∙ append_assoc pre (OPEN ∷ []) (closed payload ++ rest) ∙ sym (append_assoc pre (OPEN ∷ closed payload) rest) in
        let left : drop (length bytes) (closed payload ++ rest) ≡ drop (length behind) rest =
        ap (λ (n : ℕ). drop n (closed payload ++ rest)) sizes ∙ sym (drop-drop (length behind) size (closed payload ++ rest)) ∙ ap (drop (length behind)) (drop_at (closed payload) rest size (closed-length payload)) in
        let whole : overlaid file gate (OPEN ∷ bytes) ≡ ((pre ++ OPEN ∷ closed payload) ++ behind) ++ drop (length behind) rest =
        ap (λ (l : List ℕ). overlaid l gate (OPEN ∷ bytes)) file_is ∙ overlaid_behind pre gate pre_is (g ∷ (closed payload ++ rest)) (OPEN ∷ bytes)
        ∙ ap (λ (l : List ℕ). (pre ++ OPEN ∷ bytes) ++ l) left ∙ ap (λ (l : List ℕ). (pre ++ OPEN ∷ l) ++ drop (length behind) rest) (closed-first payload bytes spelled)
        ∙ ap (λ (l : List ℕ). l ++ drop (length behind) rest) (sym (append_assoc pre (OPEN ∷ closed payload) behind)) in
        ap (λ (l : List ℕ). overlaid (overlaid file gate (OPEN ∷ [])) from l) behind_is
        ∙ ap (λ (l : List ℕ). overlaid l from behind) opened
        ∙ overlaid_behind (pre ++ OPEN ∷ closed payload) from long rest behind
        ∙ sym whole
