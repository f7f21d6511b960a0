-- What the bytes at a gate say.
use Rattle.std.proofs.Common.{◌≡◌, ◌≢◌, ℕ, ◌+◌, ◌-◌, ◌≤◌, min, List, [], ◌∷◌, ◌++◌, length, get_or, take, drop, refl, sym, ◌∙◌, ap, subst, arith, append_assoc, take-append-drop, length-append, length-drop}
use Rattle.std.proofs.lemmas.List.{get_or-take, get_or-drop, drop-take, drop-drop, drop_more, length-take-le, append-nil, map_push, take_at}
use Rattle.byte_numbers.specs.Spelling.{big_bytes}
use Rattle.std.specs.List.{AllByRecursion}
use Rattle.lot_base.specs.declared.limits.TheConstants.{GREATEST_PAYLOAD, GREATEST_FILE}
use Rattle.report_journal.specs.declared.spellings.TheConstants.{OPEN}
use Rattle.report_journal.specs.declared.headers.Header.{Header}
use Rattle.report_journal.specs.Format.{Contents, records, body, first_gate, front, Fits, StandsFor, IsPayload, length_at, HasNoRecord, IsDamaged}
use Rattle.report_journal.specs.Fronts.{HasHeader}
use Rattle.report_journal.specs.Journals.{payload_at, payloads_at, ArePlaced, said}
use Rattle.report_journal.specs.Scans.{IsNext, AreRead}
use Rattle.report_journal.specs.declared.places.Place.{Place}
use Rattle.report_journal.specs.declared.heads.Next.TheVariants.{Record}
use Rattle.report_journal.proofs.Records.{records-push}
use Rattle.report_journal.proofs.Kept.{placed-push, payloads-push}

-- five bytes were read at the gate
pub record Five (file into : List ℕ) (gate : ℕ) : Type 0 where
  pub head : get_or file gate 0 ≡ get_or into 0 0
  pub bytes : length_at file gate ≡ take 4 (drop 1 into)
  pub long : gate + 5 ≤ length file

pub five : (file into : List ℕ) (gate n : ℕ) → 5 ≤ n → n ≡ min 5 (length file - gate) → take n into ≡ take n (drop gate file) → Five file into gate
five file into gate n enough is same =
    let n_is : n ≡ 5 = omega (arith, enough, is) in
    let five_same : take 5 into ≡ take 5 (drop gate file) = subst (λ (k : ℕ). take k into ≡ take k (drop gate file)) n_is same in
    record {
      head = let z : gate + 0 ≡ gate = omega arith in
          ap (λ (k : ℕ). get_or file k 0) (sym z) ∙ sym (get_or-drop gate file 0 0) ∙ sym (get_or-take 5 (drop gate file) 0 0 (omega arith)) ∙ ap (λ (l : List ℕ). get_or l 0 0) (sym five_same) ∙ get_or-take 5 into 0 0 (omega arith);
      bytes =
          ap (λ (l : List ℕ). take 4 l) (sym (drop-drop 1 gate file)) ∙ sym (drop-take 1 4 (drop gate file)) ∙ ap (λ (l : List ℕ). drop 1 l) (sym five_same) ∙ drop-take 1 4 into;
      long = omega (arith, is, n_is);
    }

pub read_start : (file : List ℕ) (first : ℕ) → first + 1 ≤ length file → AreRead first [] first file
read_start file first long = record { split = sym (take-append-drop first file) ∙ ap (λ (l : List ℕ). l ++ drop first file) (sym (append-nil (take first file))); placed = tt; payloads = tt; size = omega arith; within = omega (arith, long) }

module _ (first : ℕ) (places : List Place) (gate n : ℕ) (file : List ℕ) (read : AreRead first places gate file) (next : IsNext (Record n) gate file) (short : n ≤ GREATEST_PAYLOAD) where
  abbrev place : Place
  place = record { at = gate + 5; length = n }

  abbrev payload : List ℕ
  payload = payload_at file place

  long : length payload ≡ n
  long = length-take-le n (drop (gate + 5) file) (omega (arith, length-drop (gate + 5) file, next.2))

  more_payloads : payloads_at file (places ++ place ∷ []) ≡ payloads_at file places ++ payload ∷ []
  more_payloads = map_push (payload_at file) places place

  spelled : drop gate file ≡ (OPEN ∷ body payload) ++ drop (gate + 5 + n) file
  spelled =
      drop_more file gate 0 (omega (arith, next.2))
      ∙ (λ i. next.0 i ∷ sym (take-append-drop 4 (drop (gate + 1) file)) i)
      ∙ (λ i. OPEN ∷ next.1 i ++ after i)
      ∙ ap (λ (k : ℕ). OPEN ∷ big_bytes 4 k ++ (payload ++ drop (gate + 5 + n) file)) (sym long)
      ∙ sym (append_assoc (OPEN ∷ big_bytes 4 (length payload)) payload (drop (gate + 5 + n) file))
    where
      after : drop 4 (drop (gate + 1) file) ≡ take n (drop (gate + 5) file) ++ drop (gate + 5 + n) file
      after =
          drop-drop 4 (gate + 1) file ∙ (let e : gate + 1 + 4 ≡ gate + 5 = omega arith in ap (λ (k : ℕ). drop k file) e)
          ∙ sym (take-append-drop n (drop (gate + 5) file)) ∙ ap (λ (l : List ℕ). take n (drop (gate + 5) file) ++ l) (drop-drop n (gate + 5) file)

  whole : file ≡ take first file ++ records (payloads_at file (places ++ place ∷ [])) ++ drop (gate + 5 + n) file
  whole =
      read.split
      ∙ ap (λ (l : List ℕ). take first file ++ records (payloads_at file places) ++ l) spelled
      ∙ regrouped (take first file) (records (payloads_at file places)) (OPEN ∷ body payload) (drop (gate + 5 + n) file)
      ∙ ap (λ (l : List ℕ). take first file ++ l ++ drop (gate + 5 + n) file) (sym (records-push (payloads_at file places) payload) ∙ ap records (sym more_payloads))
    where
      regrouped : (a b c d : List ℕ) → a ++ b ++ (c ++ d) ≡ a ++ (b ++ c) ++ d
      regrouped a b c d = simp append_assoc

  pub read_more : AreRead first (places ++ place ∷ []) (gate + 5 + n) file
  read_more = record {
    split = whole;
    placed = subst (ArePlaced first (places ++ place ∷ [])) (sym more_payloads) (placed-push places (payloads_at file places) payload place first gate read.placed (sym read.size) refl (sym long));
    payloads = subst (AllByRecursion IsPayload) (sym more_payloads) (payloads-push (payloads_at file places) payload read.payloads (omega (arith, long, short)));
    size = omega (arith, read.size, ap (λ (ps : List (List ℕ)). length (records ps)) more_payloads, ap length (records-push (payloads_at file places) payload), length-append (records (payloads_at file places)) (OPEN ∷ body payload), length-append (big_bytes 4 (length payload)) payload, long);
    within = omega (arith, next.2);
  }

module _ (file : List ℕ) (h : Header) (has : HasHeader h file) (places : List Place) (gate : ℕ) (are : AreRead (first_gate h) places gate file) (limit : gate + 1 ≤ GREATEST_FILE) where
  abbrev x : Contents
  x = said h places file

  front_is : front x ≡ take (first_gate h) file ++ records (payloads_at file places)
  front_is = ap (λ (l : List ℕ). l ++ records (payloads_at file places)) (sym has.begins)

  pub size : length (front x) ≡ gate
  size = omega (arith, ap length front_is, length-append (take (first_gate h) file) (records (payloads_at file places)), length-take-le (first_gate h) file (omega (arith, has.more)), are.size)

  split : file ≡ front x ++ drop gate file
  split = are.split ∙ ap (λ (l : List ℕ). l ++ drop gate file) (sym front_is)

  fits_all : Fits x
  fits_all = record { header = has.header; payloads = are.payloads; end = omega (arith, size, limit) }

  pub stands : get_or file gate 0 ≢ OPEN → StandsFor x file
  stands closed = record {
    gate = get_or file gate 0;
    free = drop (gate + 1) file;
    whole = split ∙ ap (λ (l : List ℕ). front x ++ l) (drop_more file gate 0 are.within);
    shut = closed;
    fits = fits_all;
  }

  pub damaged : get_or file gate 0 ≡ OPEN → HasNoRecord file gate → IsDamaged x file
  damaged is_open none = record {
    begins = ap (λ (l : List ℕ). take (length (front x)) l) split ∙ take_at (front x) (drop gate file) (length (front x)) refl;
    open_gate = ap (λ (k : ℕ). get_or file k 0) size ∙ is_open;
    no_record = subst (HasNoRecord file) (sym size) none;
    fits = fits_all;
  }
