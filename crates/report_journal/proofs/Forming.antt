-- What a file stands for while it is formed.
use Rattle.std.proofs.Common.{◌≡◌, inl, inr, ℕ, ◌+◌, ◌<◌, ◌≤◌, List, [], ◌∷◌, ◌++◌, length, get_or, drop, refl, sym, ◌∙◌, ap, subst, arith, append_assoc, length-append}
use Rattle.std.proofs.lemmas.Bool.{cases_eq}
use Rattle.house_io.specs.Moments.{Moments, Torn, overlaid, AtEach, Leaves, IsSettled}
use Rattle.house_io.proofs.Overlays.{overlaid_behind}
use Rattle.house_io.proofs.Moments.{at_weaker, at_start, leaves_settled}
use Rattle.std.proofs.lemmas.List.{append-nil}
use Rattle.report_journal.specs.Format.{front, header_bytes, first_gate, StandsFor, IsUnformed}
use Rattle.report_journal.specs.declared.spellings.TheConstants.{OPEN, SHORTEST_FORMED}
use Rattle.report_journal.specs.declared.headers.Header.{Header}
use Rattle.report_journal.proofs.Prefixes.{header_within}
use Rattle.report_journal.specs.Puts.{empty, IsUnformedOrEmpty, IsShut, IsHead, IsStage}
use Rattle.report_journal.specs.Calls.{FormLeaves}
use Rattle.report_journal.proofs.Spans.{at_rest, overlaid_twice}
use Rattle.report_journal.proofs.Files.{torn_after, torn_one}

pub still_short : (file c : List ℕ) → length file < SHORTEST_FORMED → Torn 0 1 file c → IsUnformed c
still_short file c short torn = inl (omega (arith, short, torn.no_longer))

pub shutting : (old mid new : Moments) → mid ≡ old → length old.now.read < SHORTEST_FORMED → AtEach (Torn 0 1 mid.now.read) mid new → AtEach IsUnformed old new
shutting old mid new same short so_far =
    subst (λ (ms : Moments). AtEach IsUnformed ms new) same
    (at_weaker (Torn 0 1 mid.now.read) IsUnformed mid new (λ c torn. still_short mid.now.read c (subst (λ (ms : Moments). length ms.now.read < SHORTEST_FORMED) (sym same) short) torn) so_far)

pub shut_first : (file : List ℕ) → IsShut (overlaid file 0 (0 ∷ []))
shut_first file =
    let is : overlaid file 0 (0 ∷ []) ≡ 0 ∷ drop 1 file = overlaid_behind [] 0 refl file (0 ∷ []) in
    record { some = omega (arith, ap length is); shut = λ opened. let e : 0 ≡ OPEN = sym (ap (λ (l : List ℕ). get_or l 0 0) is) ∙ opened in omega (arith, e) }

module _ (header : Header) (bytes file : List ℕ) (is_header : IsHead header bytes) (shut : IsShut file) where
  abbrev gate : ℕ
  gate = get_or file 0 0

  parts : (file : List ℕ) → 1 ≤ length file → file ≡ get_or file 0 0 ∷ drop 1 file
  parts [] some = absurd (omega arith)
  parts (x ∷ file) some = refl

  still_shut : (c : List ℕ) → Torn 1 (length bytes) file c → IsUnformed c
  still_shut c torn =
      let is : c ≡ (gate ∷ []) ++ drop 1 c = torn_after (gate ∷ []) 1 refl (length bytes) (drop 1 file) c (subst (λ (f : List ℕ). Torn 1 (length bytes) f c) (parts file shut.some) torn) in
      inr (λ opened. shut.shut (sym (ap (λ (l : List ℕ). get_or l 0 0) is) ∙ opened))

  abbrev rest : List ℕ
  rest = drop (length bytes) (drop 1 file)

  staged : overlaid file 1 bytes ≡ gate ∷ header_bytes header ++ 0 ∷ rest
  staged =
      ap (λ (f : List ℕ). overlaid f 1 bytes) (parts file shut.some) ∙ overlaid_behind (gate ∷ []) 1 refl (drop 1 file) bytes
      ∙ ap (λ (l : List ℕ). gate ∷ l ++ rest) is_header.spelled
      ∙ ap (λ (l : List ℕ). gate ∷ l) (append_assoc (header_bytes header) (0 ∷ []) rest)

  front_is : front (empty header) ≡ OPEN ∷ header_bytes header
  front_is = ap (λ (l : List ℕ). OPEN ∷ l) (append-nil (header_bytes header))

  stands : (c : List ℕ) → c ≡ OPEN ∷ header_bytes header ++ 0 ∷ rest → StandsFor (empty header) c
  stands c is = record {
    gate = 0;
    free = rest;
    whole = is ∙ ap (λ (l : List ℕ). l ++ 0 ∷ rest) (sym front_is);
    shut = omega arith;
    fits = record { header = is_header.header; payloads = tt; end = omega (arith, ap length front_is, header_within header is_header.header) };
  }

  either : (y : ℕ) (c : List ℕ) → c ≡ y ∷ header_bytes header ++ 0 ∷ rest → IsUnformedOrEmpty header c
  either y c is = elim (cases_eq y OPEN) [
    | inl is_open ↦ inr (stands c (is ∙ ap (λ (g : ℕ). g ∷ header_bytes header ++ 0 ∷ rest) is_open))
    | inr closed ↦ inl (inr (λ opened. closed (sym (ap (λ (l : List ℕ). get_or l 0 0) is) ∙ opened)))
  ]

  torn_open : (c : List ℕ) → Torn 0 1 (overlaid file 1 bytes) c → IsUnformedOrEmpty header c
  torn_open c torn = either (get_or c 0 0) c (torn_one [] 0 refl gate (header_bytes header ++ 0 ∷ rest) c (subst (λ (f : List ℕ). Torn 0 1 f c) staged torn))

  pub is_formed : (c : List ℕ) → c ≡ overlaid file 0 (OPEN ∷ bytes) → StandsFor (empty header) c
  is_formed c done =
      stands c (done ∙ sym (overlaid_twice file 0 shut.some bytes OPEN) ∙ ap (λ (f : List ℕ). overlaid f 0 (OPEN ∷ [])) staged ∙ overlaid_behind [] 0 refl (gate ∷ header_bytes header ++ 0 ∷ rest) (OPEN ∷ []))

  pub stage : (c : List ℕ) → IsStage 0 bytes file c → IsUnformedOrEmpty header c
  stage c (inl torn) = inl (still_shut c torn)
  stage c (inr torn) = torn_open c torn

pub not_begun : (header : Header) (ms : Moments) → IsSettled ms.now × IsUnformed ms.now.read → AtEach (IsUnformedOrEmpty header) ms ms
not_begun header ms needs =
    let P = IsUnformedOrEmpty header in
    at_start P ms (subst (Leaves P) (sym needs.0) (leaves_settled P ms.now.read (inl needs.1)))

-- what is written of a header, with the gate before it
pub head_length : (header : Header) (bytes : List ℕ) → IsHead header bytes → 1 + length bytes ≡ first_gate header + 1
head_length header bytes is = omega (arith, ap length is.spelled, length-append (header_bytes header) (0 ∷ []))

module _ (header : Header) (bytes : List ℕ) (is_head : IsHead header bytes) (old new : Moments) where
  pub form_leaves : AtEach (IsUnformedOrEmpty header) old new → AtEach (Torn 0 (1 + length bytes) old.now.read) old new → FormLeaves header old new
  form_leaves stand range = record {
    stand = stand;
    range = subst (λ (n : ℕ). AtEach (Torn 0 n old.now.read) old new) (head_length header bytes is_head) range;
  }

pub not_written : (header : Header) (ms : Moments) → IsSettled ms.now × IsUnformed ms.now.read → FormLeaves header ms ms
not_written header ms needs = record { stand = not_begun header ms needs; range = at_rest 0 (first_gate header + 1) ms needs.0 }

-- a journal of no payloads
pub empty_size : (header : Header) → length (front (empty header)) ≡ first_gate header
empty_size header = omega (arith, length-append (OPEN ∷ header_bytes header) [])
