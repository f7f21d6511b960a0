-- What a journal's file stands for while a record is put.
use Rattle.std.proofs.Common.{◌≡◌, ℕ, ◌+◌, ◌≤◌, List, [], ◌∷◌, ◌++◌, length, drop, sym, ◌∙◌, ap, subst, arith, append_assoc, length-append}
use Rattle.std.proofs.lemmas.List.{append-nil}
use Rattle.house_io.specs.Moments.{Torn, overlaid}
use Rattle.house_io.proofs.Overlays.{overlaid_behind}
use Rattle.report_journal.specs.Format.{Contents, records, body, header_bytes, front, StandsFor}
use Rattle.report_journal.specs.declared.spellings.TheConstants.{OPEN}
use Rattle.report_journal.specs.Puts.{with_one_more, Takes, HasRecord}
use Rattle.report_journal.proofs.Spans.{overlaid_twice}
use Rattle.report_journal.proofs.Files.{torn_after}

pub records-push : (payloads : List (List ℕ)) (payload : List ℕ) → records (payloads ++ payload ∷ []) ≡ records payloads ++ OPEN ∷ body payload
records-push [] payload = ap (λ (l : List ℕ). OPEN ∷ l) (append-nil (body payload))
records-push (p ∷ payloads) payload =
    ap (λ (l : List ℕ). OPEN ∷ body p ++ l) (records-push payloads payload)
    ∙ ap (λ (l : List ℕ). OPEN ∷ l) (sym (append_assoc (body p) (records payloads) (OPEN ∷ body payload)))

pub front-push : (x : Contents) (payload : List ℕ) → front (with_one_more x payload) ≡ front x ++ OPEN ∷ body payload
front-push x payload =
    ap (λ (l : List ℕ). OPEN ∷ header_bytes x.header ++ l) (records-push x.payloads payload)
    ∙ ap (λ (l : List ℕ). OPEN ∷ l) (sym (append_assoc (header_bytes x.header) (records x.payloads) (OPEN ∷ body payload)))

module _ (x : Contents) (payload : List ℕ) (gate : ℕ) (bytes file : List ℕ) (spelled : HasRecord payload bytes) (takes : Takes x payload gate file) where
  -- the file up to the closed gate, this gate included
  abbrev closed : List ℕ
  closed = front x ++ takes.stands.gate ∷ []

  length-closed : length closed ≡ gate + 1
  length-closed = omega (arith, length-append (front x) (takes.stands.gate ∷ []), takes.at)

  is_closed : file ≡ closed ++ takes.stands.free
  is_closed = takes.stands.whole ∙ sym (append_assoc (front x) (takes.stands.gate ∷ []) takes.stands.free)

  still : (free c : List ℕ) → c ≡ closed ++ free → StandsFor x c
  still free c is = record {
    gate = takes.stands.gate;
    free = free;
    whole = is ∙ append_assoc (front x) (takes.stands.gate ∷ []) free;
    shut = takes.stands.shut;
    fits = takes.stands.fits;
  }

  -- a write after the gate leaves it closed
  pub torn_body : (c : List ℕ) → Torn (gate + 1) (length bytes) file c → StandsFor x c
  torn_body c torn =
      still (drop (gate + 1) c) c (torn_after closed (gate + 1) length-closed (length bytes) takes.stands.free c (subst (λ (f : List ℕ). Torn (gate + 1) (length bytes) f c) is_closed torn))

  -- after the record
  abbrev rest : List ℕ
  rest = spelled.0 ++ drop (length bytes) takes.stands.free

  abbrev after : List ℕ
  after = body payload ++ 0 ∷ rest

  staged : overlaid file (gate + 1) bytes ≡ front x ++ takes.stands.gate ∷ after
  staged =
      ap (λ (f : List ℕ). overlaid f (gate + 1) bytes) is_closed
      ∙ overlaid_behind closed (gate + 1) length-closed takes.stands.free bytes
      ∙ ap (λ (l : List ℕ). closed ++ l ++ drop (length bytes) takes.stands.free) spelled.1
      ∙ append_assoc closed (body payload ++ 0 ∷ spelled.0) (drop (length bytes) takes.stands.free)
      ∙ ap (λ (l : List ℕ). closed ++ l) (append_assoc (body payload) (0 ∷ spelled.0) (drop (length bytes) takes.stands.free))
      ∙ append_assoc (front x) (takes.stands.gate ∷ []) after

  with_it : (c : List ℕ) → c ≡ front x ++ OPEN ∷ after → StandsFor (with_one_more x payload) c
  with_it c is = record {
    gate = 0;
    free = rest;
    whole = is ∙ sym (append_assoc (front x) (OPEN ∷ body payload) (0 ∷ rest)) ∙ ap (λ (l : List ℕ). l ++ 0 ∷ rest) (sym (front-push x payload));
    shut = omega arith;
    fits = takes.fits;
  }

  pub has_it : (c : List ℕ) → c ≡ overlaid file gate (OPEN ∷ bytes) → StandsFor (with_one_more x payload) c
  has_it c done =
      let some : gate + 1 ≤ length file = omega (arith, ap length is_closed, length-append closed takes.stands.free, length-closed) in
      let opened : overlaid (overlaid file (gate + 1) bytes) gate (OPEN ∷ []) ≡ front x ++ OPEN ∷ after =
      ap (λ (f : List ℕ). overlaid f gate (OPEN ∷ [])) staged ∙ overlaid_behind (front x) gate takes.at (takes.stands.gate ∷ after) (OPEN ∷ [])
      ∙ append_assoc (front x) (OPEN ∷ []) after in
      with_it c (done ∙ sym (overlaid_twice file gate some bytes OPEN) ∙ opened)
