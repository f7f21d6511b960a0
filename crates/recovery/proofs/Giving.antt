-- One report more is given, or the reports have an end.
use Rattle.std.proofs.Common.{◌≡◌, inl, inr, ⊎_elim, ◌<◌, ◌≤◌, ℕ, zero, suc, ◌+◌, ◌*◌, List, [], ◌∷◌, ◌++◌, length, map, take, drop, Option, Some, None, Ok, refl, sym, ◌∙◌, ap, subst, arith, length-append}
use Rattle.std.specs.Prelude.{IfSome}
use Rattle.std.specs.List.{slice_get}
use Rattle.std.proofs.lemmas.List.{map-append, take_all}
use Rattle.lot_base.specs.declared.limits.TheConstants.{GREATEST_FILE, GREATEST_PAYLOAD}
use Rattle.demand_set.specs.declared.reports.Report.{Report}
use Rattle.report_journal.specs.Format.{Contents, first_gate, StandsFor, IsDamaged}
use Rattle.report_journal.specs.Journals.{payload_at, payloads_at, said}
use Rattle.report_journal.specs.Scans.{IsScan, IsInOrder, FollowFrom, places_in}
use Rattle.report_journal.specs.declared.places.Place.{Place}
use Rattle.report_journal.specs.declared.scanning.Scanned.{Scanned}
use Rattle.report_journal.specs.declared.scanning.Scanned.TheVariants as scanned
use Rattle.report_journal.proofs.Placed.{after_roomy, nth_length}
use Rattle.recovery.specs.declared.faults.JournalCause.TheVariants as cause
use Rattle.recovery.specs.declared.faults.Broken.{Broken}
use Rattle.recovery.specs.Entries.{payload_of, IsReportOf, SpellsNone}
use Rattle.recovery.specs.Journaled.{header_of, contents_of, BeginsWith, BeginsWithReports, IsReadAs}
use Rattle.recovery.specs.Causes.{HasOwnHeader, IsBroken, IfFoundOther}
use Rattle.recovery.specs.declared.streaming.Next.{Next}
use Rattle.recovery.specs.declared.streaming.Next.TheVariants as next
use Rattle.recovery.specs.Streams.{WindowOf, IsWindow, Covers, ReportsOf, AreLong, HasGiven, HasEnded, Answers, IsWhole, IsUndamaged, IsReportAt, HasNoReportAt, damaged_in}
use Rattle.recovery.proofs.Lists.{all-push}
use Rattle.recovery.proofs.Beginning.{begins-first, broken-header}

-- a scan finds few records, and each within the limit
pub few-places : (scan : Scanned) → IsInOrder scan → 5 * length (places_in scan) ≤ GREATEST_FILE
few-places scanned.Unformed order = omega arith
few-places (scanned.Formed header places end) order = omega (arith, after_roomy places (first_gate header), order.2, order.3)
few-places (scanned.Damaged header places number) order =
    ⊎_elim (λ none. few-none places none.1) (λ one. omega (arith, after_roomy places (first_gate header), one.3)) order
  where
    few-none : (places : List Place) → places ≡ [] → 5 * length places ≤ GREATEST_FILE
    few-none places none = omega (arith, ap length none)

follow-short : (gate : ℕ) (places : List Place) (i : ℕ) (place : Place) → FollowFrom gate places → slice_get places i ≡ Some place → place.length ≤ GREATEST_PAYLOAD
follow-short gate [] i place follow is = absurd (let e : None ≡ Some place = is in cc)
follow-short gate (p ∷ places) zero place follow is = let same : p ≡ place = cc is in subst (λ (q : Place). q.length ≤ GREATEST_PAYLOAD) same follow.1
follow-short gate (p ∷ places) (suc i) place follow is = follow-short (gate + 5 + p.length) places i place follow.2 is

pub short-place : (scan : Scanned) (i : ℕ) (place : Place) → IsInOrder scan → slice_get (places_in scan) i ≡ Some place → place.length ≤ GREATEST_PAYLOAD
short-place scanned.Unformed i place order is = absurd (let e : None ≡ Some place = is in cc)
short-place (scanned.Formed header places end) i place order is = follow-short (first_gate header) places i place order.1 is
short-place (scanned.Damaged header places number) i place order is =
    ⊎_elim
    (λ none. absurd (let e : None ≡ Some place = sym (ap (λ (ps : List Place). slice_get ps i) none.1) ∙ is in cc))
    (λ one. follow-short (first_gate header) places i place one.2 is) order

-- where the disk tells, a payload is as long as its place says
pub whole-place : (scan : Scanned) (file : List ℕ) (i : ℕ) (place : Place) → IsScan scan file → slice_get (places_in scan) i ≡ Some place → length (payload_at file place) ≡ place.length
whole-place scanned.Unformed file i place is there = absurd (let e : None ≡ Some place = there in cc)
whole-place (scanned.Formed header places end) file i place is there = nth_length file (first_gate header) places i place is.1 there
whole-place (scanned.Damaged header places number) file i place is there =
    ⊎_elim
    (λ none. absurd (let e : None ≡ Some place = sym (ap (λ (ps : List Place). slice_get ps i) none.1) ∙ there in cc))
    (λ damaged. nth_length file (first_gate header) places i place damaged.2 there) is

pub within-places : (places : List Place) (i : ℕ) (place : Place) → slice_get places i ≡ Some place → i < length places
within-places [] i place is = absurd (let e : None ≡ Some place = is in cc)
within-places (p ∷ places) zero place is = omega arith
within-places (p ∷ places) (suc i) place is = let r = within-places places i place is in omega (arith, r)

take-next : (places : List Place) (i : ℕ) (place : Place) → slice_get places i ≡ Some place → take (i + 1) places ≡ take i places ++ place ∷ []
take-next places i place is = (let e : i + 1 ≡ suc i = omega arith in ap (λ n. take n places) e) ∙ by places i is
  where
    by : (places : List Place) (i : ℕ) → slice_get places i ≡ Some place → take (suc i) places ≡ take i places ++ place ∷ []
    by [] i is = absurd (let e : None ≡ Some place = is in cc)
    by (p ∷ places) zero is = let same : p ≡ place = cc is in ap (λ (q : Place). q ∷ []) same
    by (p ∷ places) (suc i) is = ap (λ l. p ∷ l) (by places i is)

formed-at : (scan : Scanned) (i : ℕ) (place : Place) → slice_get (places_in scan) i ≡ Some place → scan ≡ scanned.Unformed → ⊥
formed-at scan i place is none = let e : None ≡ Some place = sym (ap (λ s. slice_get (places_in s) i) none) ∙ is in cc

-- the same reports, where the disk changed in nothing
pub carried : (told told' : Type 0) (reader : ReportsOf) (given : List Report) (file file' : List ℕ) → HasGiven told reader given file → (told' → told) → (told' → file' ≡ file) → HasGiven told' reader given file'
carried told told' reader given file file' has tells same = record {
  count = has.count;
  are = has.are;
  long = has.long;
  scan_is = λ t. subst (IsScan reader.scan) (sym (same t)) (has.scan_is (tells t));
  payloads = λ t. ap (λ (f : List ℕ). payloads_at f (take reader.given (places_in reader.scan))) (same t) ∙ has.payloads (tells t);
  window_is = λ t. subst (IsWindow reader.window) (sym (same t)) (has.window_is (tells t));
  broken_is = λ t. subst (λ (f : List ℕ). IfSome reader.broken (λ b. IsBroken reader.owner given b f)) (sym (same t)) (has.broken_is (tells t));
}

module _ (told : Type 0) (reader : ReportsOf) (given : List Report) (file : List ℕ) (has : HasGiven told reader given file) where
  abbrev goods : ℕ
  goods = length reader.owner.terms.goods

  abbrev all_places : List Place
  all_places = places_in reader.scan

  -- with other bytes read ahead
  pub with-window : (window : WindowOf) → (told → IsWindow window file) → HasGiven told (record reader { window = window }) given file
  with-window window is = record {
    count = has.count;
    are = has.are;
    long = has.long;
    scan_is = has.scan_is;
    payloads = has.payloads;
    window_is = is;
    broken_is = has.broken_is;
  }

  -- a broken record was met
  pub with-broken : (broken : Broken) → (told → IsBroken reader.owner given broken file) → HasGiven told (record reader { broken = Some broken }) given file
  with-broken broken is = record {
    count = has.count;
    are = has.are;
    long = has.long;
    scan_is = has.scan_is;
    payloads = has.payloads;
    window_is = has.window_is;
    broken_is = is;
  }

  payloads-next : (place : Place) (payload : List ℕ) → slice_get all_places reader.given ≡ Some place → told → payload_at file place ≡ payload
      → payloads_at file (take (reader.given + 1) all_places) ≡ map (payload_of goods) given ++ payload ∷ []
  payloads-next place payload there t is =
      ap (payloads_at file) (take-next all_places reader.given place there)
      ∙ map-append (payload_at file) (take reader.given all_places) (place ∷ [])
      ∙ (λ i. has.payloads t i ++ is i ∷ [])

  -- one report more
  pub one-more : (place : Place) (r : Report) → reader.broken ≡ None → slice_get all_places reader.given ≡ Some place → IsReportOf reader.owner.terms r → place.length ≡ length (payload_of goods r)
      → (told → payload_at file place ≡ payload_of goods r) → HasGiven told (record reader { given = reader.given + 1 }) (given ++ r ∷ []) file
  one-more place r unbroken there is long read = record {
    count = omega (arith, length-append given (r ∷ []), has.count);
    are = all-push (IsReportOf reader.owner.terms) given r has.are is;
    long =
        ap (λ (ps : List Place). map (λ p. p.length) ps) (take-next all_places reader.given place there)
        ∙ map-append (λ p. p.length) (take reader.given all_places) (place ∷ [])
        ∙ (λ i. has.long i ++ long i ∷ [])
        ∙ sym (map-append (λ x. length (payload_of goods x)) given (r ∷ []));
    scan_is = has.scan_is;
    payloads = λ t. payloads-next place (payload_of goods r) there t (read t) ∙ sym (map-append (payload_of goods) given (r ∷ []));
    window_is = has.window_is;
    broken_is = λ t. subst (λ (o : Option Broken). IfSome o (λ b. IsBroken reader.owner (given ++ r ∷ []) b file)) (sym unbroken) tt;
  }

  abbrev B : List (List ℕ) → Type 0
  B ps = BeginsWith (record { header = header_of reader.owner; payloads = ps }) file

  begins-next : (place : Place) (payload : List ℕ) → HasOwnHeader reader.owner reader.scan → slice_get all_places reader.given ≡ Some place → told → payload_at file place ≡ payload → B (map (payload_of goods) given ++ payload ∷ [])
  begins-next place payload own there t is =
      subst B (payloads-next place payload there t is) (begins-first reader.owner reader.scan file (reader.given + 1) own (formed-at reader.scan reader.given place there) (has.scan_is t))

  pub begins-more : (place : Place) (r : Report) → HasOwnHeader reader.owner reader.scan → slice_get all_places reader.given ≡ Some place → IsReportOf reader.owner.terms r → told → payload_at file place ≡ payload_of goods r
      → BeginsWithReports reader.owner (given ++ r ∷ []) file
  begins-more place r own there is t read = record {
    begins = subst B (sym (map-append (payload_of goods) given (r ∷ []))) (begins-next place (payload_of goods r) own there t read);
    are = all-push (IsReportOf reader.owner.terms) given r has.are is;
  }

  -- the payload is that of no report
  pub no-report : (place : Place) (number : ℕ) → HasOwnHeader reader.owner reader.scan → slice_get all_places reader.given ≡ Some place → number ≡ reader.given + 1 → told → SpellsNone reader.owner.terms (payload_at file place)
      → IsBroken reader.owner given (record { number = number; cause = cause.NotReport }) file
  no-report place number own there is t none = inr (
    is ∙ ap (λ n. n + 1) (sym has.count),
    has.are,
    record { payload = payload_at file place; begins = begins-next place (payload_at file place) own there t refl; none = none },
  )

-- all records were given
all-taken : (places : List Place) (n : ℕ) → n ≡ length places → take n places ≡ places
all-taken places n all = take_all n places (omega (arith, all))

no-reports : (given : List Report) → length given ≡ 0 → given ≡ []
no-reports [] none = refl
no-reports (r ∷ given) none = absurd (omega arith)

pub whole-of : (told : Type 0) (reader : ReportsOf) (given : List Report) (file : List ℕ) → HasGiven told reader given file → HasOwnHeader reader.owner reader.scan → reader.given ≡ length (places_in reader.scan) → IsUndamaged reader.scan
    → IsWhole reader.owner reader.scan given
whole-of told reader given file has own all undamaged = by reader.scan own (has.count ∙ all) (subst (λ (ps : List Place). AreLong (length reader.owner.terms.goods) ps given) (all-taken (places_in reader.scan) reader.given all) has.long) undamaged
  where
    by : (scan : Scanned) → HasOwnHeader reader.owner scan → length given ≡ length (places_in scan) → AreLong (length reader.owner.terms.goods) (places_in scan) given → IsUndamaged scan → IsWhole reader.owner scan given
    by scanned.Unformed own all long undamaged = no-reports given all
    by (scanned.Formed header places end) own all long undamaged = (own, long)
    by (scanned.Damaged header places number) own all long undamaged = absurd undamaged

pub read-as : (told : Type 0) (reader : ReportsOf) (given : List Report) (file : List ℕ) → HasGiven told reader given file → HasOwnHeader reader.owner reader.scan → reader.given ≡ length (places_in reader.scan) → IsUndamaged reader.scan → told
    → IsReadAs reader.owner given file
read-as told reader given file has own all undamaged t =
    by reader.scan own (has.count ∙ all) undamaged (has.scan_is t) (ap (payloads_at file) (sym (all-taken (places_in reader.scan) reader.given all)) ∙ has.payloads t)
  where
    by : (scan : Scanned) → HasOwnHeader reader.owner scan → length given ≡ length (places_in scan) → IsUndamaged scan → IsScan scan file
        → payloads_at file (places_in scan) ≡ map (payload_of (length reader.owner.terms.goods)) given → IsReadAs reader.owner given file
    by scanned.Unformed own all undamaged is payloads = inl (is, no-reports given all)
    by (scanned.Formed header places end) own all undamaged is payloads =
        let same : said header places file ≡ contents_of reader.owner given = λ i. record { header = own i; payloads = payloads i } in
        inr (record { stands = subst (λ (x : Contents). StandsFor x file) same is.0; are = has.are })
    by (scanned.Damaged header places number) own all undamaged is payloads = absurd undamaged

-- the record after these reports is damaged
pub damaged-of : (told : Type 0) (reader : ReportsOf) (given : List Report) (file : List ℕ) (number : ℕ) → HasGiven told reader given file → HasOwnHeader reader.owner reader.scan
    → reader.given ≡ length (places_in reader.scan) → damaged_in reader.scan ≡ Some number → told → IsBroken reader.owner given (record { number = number; cause = cause.Damaged }) file
damaged-of told reader given file number has own all damaged t =
    by reader.scan own (has.count ∙ all) damaged (has.scan_is t) (ap (payloads_at file) (sym (all-taken (places_in reader.scan) reader.given all)) ∙ has.payloads t)
  where
    by : (scan : Scanned) → HasOwnHeader reader.owner scan → length given ≡ length (places_in scan) → damaged_in scan ≡ Some number → IsScan scan file
        → payloads_at file (places_in scan) ≡ map (payload_of (length reader.owner.terms.goods)) given → IsBroken reader.owner given (record { number = number; cause = cause.Damaged }) file
    by scanned.Unformed own all damaged is payloads = absurd (let e : None ≡ Some number = damaged in cc)
    by (scanned.Formed header places end) own all damaged is payloads = absurd (let e : None ≡ Some number = damaged in cc)
    by (scanned.Damaged header places m) own all damaged is payloads =
        let same : said header places file ≡ contents_of reader.owner given = λ i. record { header = own.1 i; payloads = payloads i } in
        let number_is : m ≡ number = cc damaged in
        ⊎_elim (λ none. absurd (own.0 none.0))
        (λ found. inr (sym number_is ∙ found.0 ∙ ap (λ n. n + 1) (sym all), has.are, subst (λ (x : Contents). IsDamaged x file) same found.1)) is

undamaged-of : (scan : Scanned) → damaged_in scan ≡ None → IsUndamaged scan
undamaged-of scanned.Unformed none = tt
undamaged-of (scanned.Formed header places end) none = tt
undamaged-of (scanned.Damaged header places m) none = absurd (let e : Some m ≡ None = none in cc)

past-places : (places : List Place) (i : ℕ) → slice_get places i ≡ None → length places ≤ i
past-places [] i none = omega arith
past-places (p ∷ places) zero none = absurd (let e : Some p ≡ None = none in cc)
past-places (p ∷ places) (suc i) none = let r = past-places places i none in omega (arith, r)

-- a reader without more places
record IsPast (reader : ReportsOf) : Type 0 where
  pub unbroken : reader.broken ≡ None
  pub own : HasOwnHeader reader.owner reader.scan
  pub all : reader.given ≡ length (places_in reader.scan)

past-of : (reader : ReportsOf) → reader.broken ≡ None → HasOwnHeader reader.owner reader.scan → reader.given ≤ length (places_in reader.scan) → slice_get (places_in reader.scan) reader.given ≡ None → IsPast reader
past-of reader unbroken own within none = record { unbroken = unbroken; own = own; all = omega (arith, within, past-places (places_in reader.scan) reader.given none) }

-- the steps of a reader, which is seen as it is and as its callers see it
module _ (view self : ReportsOf) (same : view ≡ self) (unbroken : view.broken ≡ None) (own : HasOwnHeader view.owner view.scan) where
  pub ended : view.given ≤ length (places_in view.scan) → slice_get (places_in view.scan) view.given ≡ None → damaged_in view.scan ≡ None → HasEnded self
  ended within none undamaged =
      let past = past-of view unbroken own within none in
      subst HasEnded same (record { unbroken = past.unbroken; all = past.all; undamaged = undamaged-of view.scan undamaged })

  pub answers-end : (told : Type 0) (given : List Report) (file : List ℕ) → view.given ≤ length (places_in view.scan) → slice_get (places_in view.scan) view.given ≡ None → damaged_in view.scan ≡ None
      → HasGiven told self given file → Answers told self given file (Ok next.End)
  answers-end told given file within none undamaged has =
      let past = past-of view unbroken own within none in
      let here = subst (λ r. HasGiven told r given file) (sym same) has in
      let P : ReportsOf → Type 0 = λ r. IsWhole r.owner r.scan given × (told → IsReadAs r.owner given file) in
      let whole : P self = subst P same (whole-of told view given file here own past.all (undamaged-of view.scan undamaged), read-as told view given file here own past.all (undamaged-of view.scan undamaged)) in
      (has, whole.0, whole.1)

  pub answers-damaged : (told : Type 0) (given : List Report) (file : List ℕ) (number : ℕ) (new : ReportsOf) (answer : Next) → view.given ≤ length (places_in view.scan) → slice_get (places_in view.scan) view.given ≡ None
      → damaged_in view.scan ≡ Some number → new ≡ record view { broken = Some (record { number = number; cause = cause.Damaged }) } → answer ≡ next.Broken (record { number = number; cause = cause.Damaged })
      → HasGiven told self given file → Answers told new given file (Ok answer)
  answers-damaged told given file number new answer within none damaged kept is has =
      let past = past-of view unbroken own within none in
      let here = subst (λ r. HasGiven told r given file) (sym same) has in
      let broken = damaged-of told view given file number here own past.all damaged in
      let P : ReportsOf → Next → Type 0 = λ r n. Answers told r given file (Ok n) in
      subst (λ r. P r answer) (sym kept) (subst (λ n. P (record view { broken = Some (record { number = number; cause = cause.Damaged }) }) n) (sym is)
      (with-broken told view given file here (record { number = number; cause = cause.Damaged }) broken, broken))

  module _ (told told' : Type 0) (window : WindowOf) (place : Place) (given : List Report) (file file' : List ℕ) (there : slice_get (places_in view.scan) view.given ≡ Some place)
      (tells : told' → told) (reads : told' → file' ≡ file) (window_is : told' → IsWindow view.window file → IsWindow window file) (has : HasGiven told self given file) where
    abbrev ahead : ReportsOf
    ahead = record view { window = window }

    window-there : told' → IsWindow window file'
    window-there t =
        let here = subst (λ r. HasGiven told r given file) (sym same) has in
        subst (IsWindow window) (sym (reads t)) (window_is t (here.window_is (tells t)))

    pub read-ahead : HasGiven told' ahead given file'
    read-ahead =
        let here = subst (λ r. HasGiven told r given file) (sym same) has in
        with-window told' view given file' (carried told told' view given file file' here tells reads) window window-there

    pub answers-report : (r : Report) → IsReportAt ahead place r → Answers told' (record view { given = view.given + 1; window = window }) given file' (Ok (next.Report r))
    answers-report r at = (
      one-more told' ahead given file' read-ahead place r unbroken there at.report at.long (λ t. at.read file' (window-there t)),
      λ t. begins-more told' ahead given file' read-ahead place r own there at.report t (at.read file' (window-there t)),
    )

    pub answers-none : (number : ℕ) (new : ReportsOf) (answer : Next) → HasNoReportAt ahead place → (told' → length (payload_at file place) ≡ place.length → Covers window place) → number ≡ view.given + 1
        → new ≡ record ahead { broken = Some (record { number = number; cause = cause.NotReport }) } → answer ≡ next.Broken (record { number = number; cause = cause.NotReport }) → Answers told' new given file' (Ok answer)
    answers-none number new answer not covers number_is kept is =
        let whole : told' → length (payload_at file place) ≡ place.length = λ t.
        ap (λ (f : List ℕ). length (payload_at f place)) (sym (reads t)) ∙ whole-place view.scan file' view.given place (read-ahead.scan_is t) there in
        let broken = λ (t : told'). no-report told' ahead given file' read-ahead place number own there number_is t (not (covers t (whole t)) file' (window-there t)) in
        let P : ReportsOf → Next → Type 0 = λ r n. Answers told' r given file' (Ok n) in
        subst (λ r. P r answer) (sym kept) (subst (λ n. P (record ahead { broken = Some (record { number = number; cause = cause.NotReport }) }) n) (sym is)
        (with-broken told' ahead given file' read-ahead (record { number = number; cause = cause.NotReport }) broken, broken))

-- a reader begins
pub begun : (told : Type 0) (reader : ReportsOf) (file : List ℕ) → reader.given ≡ 0 → IfFoundOther reader.owner reader.scan reader.broken → (told → IsScan reader.scan file) → reader.window.bytes ≡ [] → HasGiven told reader [] file
begun told reader file none found is empty = record {
  count = sym none;
  are = tt;
  long = ap (λ n. map (λ p. p.length) (take n (places_in reader.scan))) none;
  scan_is = is;
  payloads = λ t. ap (λ n. payloads_at file (take n (places_in reader.scan))) none;
  window_is = λ t. empty-window reader.window file empty;
  broken_is = λ t. by reader.broken found (is t);
}
  where
    empty-window : (window : WindowOf) (file : List ℕ) → window.bytes ≡ [] → IsWindow window file
    empty-window window file empty = empty ∙ sym (ap (λ (l : List ℕ). take (length l) (drop window.at file)) empty)

    by : (o : Option Broken) → IfFoundOther reader.owner reader.scan o → IsScan reader.scan file → IfSome o (λ b. IsBroken reader.owner [] b file)
    by None found is = tt
    by (Some broken) found is = inl (found.0, refl, broken-header reader.owner reader.scan broken.cause file found.1 is)
