-- How a file begins in which a scan found records.
use Rattle.std.proofs.Common.{◌≡◌, inl, inr, ⊎_elim, ◌<◌, ◌≤◌, ℕ, ◌+◌, List, [], ◌∷◌, ◌++◌, length, get_or, take, drop, refl, sym, ◌∙◌, ap, subst, arith, append_assoc, length-append, length-drop, take-append-drop}
use Rattle.std.specs.List.{AllByRecursion}
use Rattle.std.proofs.lemmas.Bool.{cases_lt}
use Rattle.std.proofs.lemmas.List.{map-append, take_at, get_or_past}
use Rattle.report_journal.specs.declared.headers.Header.{Header}
use Rattle.report_journal.specs.declared.places.Place.{Place}
use Rattle.report_journal.specs.declared.scanning.Scanned.{Scanned}
use Rattle.report_journal.specs.declared.scanning.Scanned.TheVariants as scanned
use Rattle.report_journal.specs.declared.spellings.TheConstants.{OPEN}
use Rattle.report_journal.specs.Format.{Contents, header_bytes, first_gate, body, records, front, IsPayload, Fits, StandsFor, IsDamaged}
use Rattle.report_journal.specs.Fronts.{HasHeader}
use Rattle.report_journal.specs.Journals.{payload_at, payloads_at, said}
use Rattle.report_journal.specs.Scans.{IsScan, places_in}
use Rattle.recovery.specs.declared.faults.JournalCause.{JournalCause}
use Rattle.recovery.specs.declared.faults.JournalCause.TheVariants as cause
use Rattle.recovery.specs.Journaled.{Owner, header_of, BeginsWith}
use Rattle.recovery.specs.Causes.{IsHeaderCause, IsBrokenHeader, FoundOther, HasOwnHeader}

pub begins-formed : (x : Contents) (file : List ℕ) → StandsFor x file → BeginsWith x file
begins-formed x file stands = record { byte = stands.gate; rest = stands.free; whole = stands.whole; fits = stands.fits }

-- a list that is not empty
record IsSome (l : List ℕ) : Type 0 where
  pub head : ℕ
  pub tail : List ℕ
  pub is : l ≡ head ∷ tail

some-of : (l : List ℕ) → 1 ≤ length l → IsSome l
some-of [] some = absurd (omega arith)
some-of (x ∷ l) some = record { head = x; tail = l; is = refl }

followed : (x : Contents) (file more : List ℕ) → file ≡ front x ++ more → 1 ≤ length more → Fits x → BeginsWith x file
followed x file more split some fits =
    let m = some-of more some in
    record { byte = m.head; rest = m.tail; whole = split ∙ ap (λ (l : List ℕ). front x ++ l) m.is; fits = fits }

pub begins-damaged : (x : Contents) (file : List ℕ) → IsDamaged x file → BeginsWith x file
begins-damaged x file damage =
    let n = length (front x) in
    let within : n < length file = below_open file n damage.open_gate in
    followed x file (drop n file)
    (sym (take-append-drop n file) ∙ ap (λ (l : List ℕ). l ++ drop n file) damage.begins) (omega (arith, within, length-drop n file)) damage.fits
  where
    below_open : (file : List ℕ) (n : ℕ) → get_or file n 0 ≡ OPEN → n < length file
    below_open file n opened = elim (cases_lt n (length file)) [
      | inl less ↦ less
      | inr more ↦ absurd (let e : 0 ≡ OPEN = sym (get_or_past file n 0 more) ∙ opened in omega (arith, e))
    ]

-- the header of a file that begins with contents
pub has-header : (x : Contents) (file : List ℕ) → BeginsWith x file → HasHeader x.header file
has-header x file begins =
    let head = OPEN ∷ header_bytes x.header in
    let more = records x.payloads ++ begins.byte ∷ begins.rest in
    let split : file ≡ head ++ more = begins.whole ∙ append_assoc head (records x.payloads) (begins.byte ∷ begins.rest) in
    let size : length head ≡ first_gate x.header = omega arith in
    record {
      header = begins.fits.header;
      begins = ap (λ (l : List ℕ). take (first_gate x.header) l) split ∙ take_at head more (first_gate x.header) size;
      more = omega (arith, ap length split, length-append head more, length-append (records x.payloads) (begins.byte ∷ begins.rest), size);
    }

pub records-append : (ps qs : List (List ℕ)) → records (ps ++ qs) ≡ records ps ++ records qs
records-append [] qs = refl
records-append (p ∷ ps) qs =
    ap (λ (l : List ℕ). OPEN ∷ body p ++ l) (records-append ps qs) ∙ ap (λ (l : List ℕ). OPEN ∷ l) (sym (append_assoc (body p) (records ps) (records qs)))

all-front : {X : Type 0} (P : X → Type 0) (xs ys : List X) → AllByRecursion P (xs ++ ys) → AllByRecursion P xs
all-front P [] ys all = tt
all-front P (x ∷ xs) ys all = (all.0, all-front P xs ys all.1)

-- with fewer payloads it begins so too
pub begins-fewer : (header : Header) (ps qs : List (List ℕ)) (file : List ℕ) → BeginsWith (record { header = header; payloads = ps ++ qs }) file → BeginsWith (record { header = header; payloads = ps }) file
begins-fewer header ps qs file begins =
    let head = OPEN ∷ header_bytes header in
    let more = begins.byte ∷ begins.rest in
    let split : file ≡ (head ++ records ps) ++ (records qs ++ more) =
    begins.whole ∙ ap (λ (l : List ℕ). (head ++ l) ++ more) (records-append ps qs)
    ∙ ap (λ (l : List ℕ). l ++ more) (sym (append_assoc head (records ps) (records qs))) ∙ append_assoc (head ++ records ps) (records qs) more in
    let long : length (front (record { header = header; payloads = ps ++ qs })) ≡ length (head ++ records ps) + length (records qs) =
    ap length (ap (λ (l : List ℕ). head ++ l) (records-append ps qs) ∙ sym (append_assoc head (records ps) (records qs))) ∙ length-append (head ++ records ps) (records qs) in
    let fits = begins.fits in
    followed (record { header = header; payloads = ps }) file (records qs ++ more) split (omega (arith, length-append (records qs) more))
    (record { header = fits.header; payloads = all-front IsPayload ps qs fits.payloads; end = omega (arith, fits.end, long) })

-- the contents that a scan found under the owner's header
pub begins-own : (owner : Owner) (scan : Scanned) (file : List ℕ) → HasOwnHeader owner scan → (scan ≡ scanned.Unformed → ⊥) → IsScan scan file
    → BeginsWith (record { header = header_of owner; payloads = payloads_at file (places_in scan) }) file
begins-own owner scanned.Unformed file own formed is = absurd (formed refl)
begins-own owner (scanned.Formed header places end) file own formed is =
    let B : Header → Type 0 = λ h. BeginsWith (record { header = h; payloads = payloads_at file places }) file in
    subst B own (begins-formed (said header places file) file is.0)
begins-own owner (scanned.Damaged header places number) file own formed is =
    let B : Header → Type 0 = λ h. BeginsWith (record { header = h; payloads = payloads_at file places }) file in
    subst B own.1 (⊎_elim (λ none. absurd (own.0 none.0)) (λ damaged. begins-damaged (said header places file) file damaged.1) is)

split-places : (file : List ℕ) (places : List Place) (n : ℕ) → payloads_at file places ≡ payloads_at file (take n places) ++ payloads_at file (drop n places)
split-places file places n = ap (payloads_at file) (sym (take-append-drop n places)) ∙ map-append (payload_at file) (take n places) (drop n places)

-- and with the first payloads alone
pub begins-first : (owner : Owner) (scan : Scanned) (file : List ℕ) (n : ℕ) → HasOwnHeader owner scan → (scan ≡ scanned.Unformed → ⊥) → IsScan scan file
    → BeginsWith (record { header = header_of owner; payloads = payloads_at file (take n (places_in scan)) }) file
begins-first owner scan file n own formed is =
    let places = places_in scan in
    let B : List (List ℕ) → Type 0 = λ ps. BeginsWith (record { header = header_of owner; payloads = ps }) file in
    begins-fewer (header_of owner) (payloads_at file (take n places)) (payloads_at file (drop n places)) file (subst B (split-places file places n) (begins-own owner scan file own formed is))

-- a header that a scan found, and that is not the owner's
other-header : (owner : Owner) (x : Contents) (why : JournalCause) (file : List ℕ) → IsHeaderCause owner x.header why → BeginsWith x file → IsBrokenHeader owner why file
other-header owner x (cause.OtherClock found) file is begins = record { header = x.header; has = has-header x file begins; cause_is = is }
other-header owner x (cause.OtherAuction found) file is begins = record { header = x.header; has = has-header x file begins; cause_is = is }
other-header owner x (cause.OtherVersion found) file is begins = record { header = x.header; has = has-header x file begins; cause_is = is }
other-header owner x (cause.OtherOpening good) file is begins = record { header = x.header; has = has-header x file begins; cause_is = is }
other-header owner x cause.Damaged file is begins = absurd is
other-header owner x cause.NotReport file is begins = absurd is

pub broken-header : (owner : Owner) (scan : Scanned) (why : JournalCause) (file : List ℕ) → FoundOther owner scan why → IsScan scan file → IsBrokenHeader owner why file
broken-header owner scanned.Unformed why file other is = absurd other
broken-header owner (scanned.Formed header places end) why file other is = other-header owner (said header places file) why file other (begins-formed (said header places file) file is.0)
broken-header owner (scanned.Damaged header places number) why file other is =
    let B : JournalCause → Type 0 = λ w. IsBrokenHeader owner w file in
    ⊎_elim
    (λ headless. subst B (sym headless.1) (⊎_elim (λ none. none.2) (λ damaged. absurd (omega (arith, headless.0, damaged.0))) is))
    (λ headed. ⊎_elim (λ none. absurd (headed.0 none.0)) (λ damaged. other-header owner (said header places file) why file headed.1 (begins-damaged (said header places file) file damaged.1)) is)
    other
