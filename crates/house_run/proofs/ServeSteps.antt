-- The journals of an auction are opened, the auction is served, and they are given back.
use Rattle.std.proofs.Common.{if◌then◌else◌, true≢false, ◌≡◌, ◌∙◌, ◌<◌, ◌≤◌, ◌+◌, ◌-◌, ◌^◌, ◌++◌, min, ℕ, Bool, true, false, IsTrue, List, [], ◌∷◌, length, map, take, get_or, Option, Some, None, Result, Ok, Err, arith, inl, inr, refl, sym, ap, subst, option_map, unwrap_or}
use Rattle.house_io.specs.Disks.{DiskShown, IsFresh, is_told, told_moments}
use Rattle.std.specs.Prelude.{IfSome}
use Rattle.std.specs.List.{AllByRecursion}
use Rattle.std.proofs.lemmas.List.Elements.{All-from_recursion}
use Rattle.std.proofs.lemmas.List.{drop-map, length-map, map-append, take-map}
use Rattle.house_io.specs.Doors.{DoorLinks, IsEmptyDoor}
use Rattle.house_io.specs.Faults.{Rose, raised_by}
use Rattle.house_io.specs.Links.{LinkBytes}
use Rattle.house_io.specs.Moments.{Moments, opened}
use Rattle.house_io.specs.Nets.{NetLists}
use Rattle.house_io.specs.Shelves.{NamedFile, ChangesNone, IfTells, IfWasTold, IsLeftBy, StandsAs, file_of, moments_at}
use Rattle.house_io.specs.Told.{IfTold}
use Rattle.lot_base.specs.declared.auction_terms.Terms.{Terms}
use Rattle.auction_file.specs.declared.listing.Auction.{Auction}
use Rattle.recovery.specs.Journaled.{Owner, owner_of}
use Rattle.clock.specs.Reports.{ClockHistory}
use Rattle.clock_book.specs.DeskHistories.{marks_in}
use Rattle.clock_book.specs.Opened.{IsLeftUnlessClaimed}
use Rattle.clock_book.specs.Opening.{IsOpening, ReadsClock, StandsForHistory}
use Rattle.clock_family.specs.Opening.{IsNotOpen}
use Rattle.clock_book.specs.declared.faults.OpenFault.{OpenFault}
use Rattle.clock_book.specs.declared.faults.OpenFault.TheVariants as why
use Rattle.house_serve.specs.Houses.{DoorRun, Joins}
use Rattle.house_run.specs.Causes.{FailedAt}
use Rattle.house_run.specs.ClockRuns.{BeginNew, ClockRun, IsJournalRun, LeavesJournal, NoneFailed}
use Rattle.house_run.specs.Disks.{AreGivenBack, AreNotOpen, AreOpen, IsJournalBelow, IsNotOpened, KeepsMoments}
use Rattle.house_io.specs.NetsShown.{DoorShown, LinkShown, door_shown, link_shown, links_shown}
use Rattle.house_run.specs.Frame.{RisesAmong}
use Rattle.house_run.specs.Found.{told_first}
use Rattle.house_run.specs.Hosting.{DoorsRan, DoorsServed, HostEnd, HostOutcome, IsHosted, IsSameNet, IsUnhosted, LeavesDisk, LeavesNet, ServedAnswer}
use Rattle.house_run.specs.Journals.{IsFirstRefused, IsRefusal}
use Rattle.house_run.specs.Needs.{first_journals, journal_name, with_names}
use Rattle.command_line.specs.Parts.{Serving}
use Rattle.house_run.specs.Nets.{NetSeen, IsNetUntouched}
use Rattle.house_io.specs.NetsShown.{NetView, net_view}
use Rattle.house_run.specs.Seen.{ShelfSeen, content}
use Rattle.house_run.specs.Serving.{DoorsServing, JournalsNotServed, JournalsServed, KeepsJournals, LeavesNetAt, NotServing, ServesAt, ServesJournals}
use Rattle.house_run.specs.Status.{end_at}
use Rattle.house_run.specs.declared.ends.Ended.{Ended}
use Rattle.house_run.specs.declared.ends.Ended.TheVariants as how
use Rattle.house_run.specs.declared.hosting.Hosted.{Hosted}
use Rattle.house_run.proofs.ClockRunning.{was-told}
use Rattle.house_run.proofs.DiskSteps.{Keeps, between, keeps-itself, keeps-none, keeps-then, some-of}
use Rattle.house_run.proofs.Framing.{content-now}
use Rattle.house_run.proofs.GivingSteps.{map-map, told-same}
use Rattle.house_run.proofs.JournalSteps.{OneRead, first-read}
use Rattle.house_run.proofs.RunsSeen.{all-seen, run_seen, told-by, turns-seen}

-- the net, as a contract of a run sees it

module _ {R L M : Type 0} (told : R → Option (DoorLinks M)) (faults : R → ℕ) (link_told : M → Option LinkBytes) (link_faults : M → ℕ) (dialled_told : L → Option LinkBytes) where
  abbrev shown : R → Option (DoorLinks LinkShown)
  shown door = option_map (links_shown link_told link_faults) (told door)

  views : (doors : List R) → map (λ (door : DoorShown). door.told) (map (door_shown told faults link_told link_faults) doors) ≡ map shown doors
  views [] = refl
  views (d ∷ doors) = ap (λ l. shown d ∷ l) (views doors)

  empty-view : (o : Option (DoorLinks M)) → IsEmptyDoor o → IfSome (option_map (links_shown link_told link_faults) o) (λ (d : DoorLinks LinkShown). d.to_come ≡ [])
  empty-view None empty = tt
  empty-view (Some d) empty = ap (map (link_shown link_told link_faults)) empty

  empty-views : (doors : List R) → AllByRecursion (λ door. IsEmptyDoor (told door)) doors → AllByRecursion (λ (door : Option (DoorLinks LinkShown)). IfSome door (λ (d : DoorLinks LinkShown). d.to_come ≡ [])) (map shown doors)
  empty-views [] all = tt
  empty-views (d ∷ doors) all = (empty-view (told d) all.0, empty-views doors all.1)

  pub serves-at : (address : List ℕ) (count : ℕ) (given back : List R) (b a : NetLists R L) → DoorsServed told address count given back b a
      → ServesAt address count (map (door_shown told faults link_told link_faults) given) (map (door_shown told faults link_told link_faults) back) (net_view told link_told link_faults dialled_told b) (net_view told link_told link_faults dialled_told a)
  unfolding net_view
  serves-at address count given back b a served = record {
    empty = map shown served.empty;
    given_are = views given ∙ ap (map shown) served.given_are ∙ map-append shown (take count b.doors) served.empty ∙ ap (λ l. l ++ map shown served.empty) (sym (take-map shown count b.doors));
    are_empty = empty-views served.empty served.are_empty;
    after_is = ap (net_view told link_told link_faults dialled_told) served.after_is ∙ (λ i. record {
      doors = sym (drop-map shown count b.doors) i;
      closed = (map-append shown b.closed back ∙ ap (λ l. map shown b.closed ++ l) (sym (views back))) i;
      links = map dialled_told b.links;
      hung_up = map dialled_told b.hung_up;
      door_places = b.door_places;
      link_places = b.link_places;
      asked = b.asked ++ address ∷ [];
      dialled = b.dialled;
    });
  }

  pub leaves-at : (address : List ℕ) (count : ℕ) (b a : NetLists R L) → LeavesNet told address count b a → LeavesNetAt address count (net_view told link_told link_faults dialled_told b) (net_view told link_told link_faults dialled_told a)
  unfolding net_view
  leaves-at address count b a (inl same) = inl (ap (net_view told link_told link_faults dialled_told) same)
  leaves-at address count b a (inr (inl refused)) = inr (inl (ap (net_view told link_told link_faults dialled_told) refused))
  leaves-at address count b a (inr (inr (given, served))) = inr (inr (map (door_shown told faults link_told link_faults) given, serves-at address count given given b a served))

  none-seen : (sessions : ℕ) (auction : Auction) (runs : List (DoorRun R M)) → NoneFailed runs → NoneFailed (map (run_seen told faults link_told link_faults auction sessions) runs)
  none-seen sessions auction [] all = tt
  none-seen sessions auction (r ∷ runs) all = (all.0, none-seen sessions auction runs all.1)

  none-behind : (sessions : ℕ) (auction : Auction) (runs : List (DoorRun R M)) → NoneFailed (map (run_seen told faults link_told link_faults auction sessions) runs) → NoneFailed runs
  none-behind sessions auction [] all = tt
  none-behind sessions auction (r ∷ runs) all = (all.0, none-behind sessions auction runs all.1)

  pub answer-seen : (answer : Result Hosted Ended) (sessions : ℕ) (auction : Auction) (clocks : List ClockHistory) (runs : List (DoorRun R M)) (before now : ℕ) → ServedAnswer clocks runs answer before now
      → ServedAnswer clocks (map (run_seen told faults link_told link_faults auction sessions) runs) answer before now
  answer-seen (Ok hosted) sessions auction clocks runs before now told_of = record {
    none_failed = none-seen sessions auction runs told_of.none_failed;
    histories_are = told_of.histories_are;
    ends_are = told_of.ends_are ∙ sym (map-map (λ (d : DoorRun DoorShown LinkShown). d.log.ends.items) (run_seen told faults link_told link_faults auction sessions) runs);
    steady = told_of.steady;
  }
  answer-seen (Err end) sessions auction clocks runs before now told_of = record { some_failed = λ none. told_of.some_failed (none-behind sessions auction runs none); cause = told_of.cause }

  pub begin-seen : (sessions : ℕ) (auction : Auction) (clocks : List ClockRun) (runs : List (DoorRun R M)) → BeginNew clocks runs
      → BeginNew clocks (map (run_seen told faults link_told link_faults auction sessions) runs)
  begin-seen sessions auction clocks [] all = tt
  begin-seen sessions auction clocks (r ∷ runs) all = (all.0, begin-seen sessions auction clocks runs all.1)

  pub doors-serving : (auction : Auction) (s : Serving) (runs : List (DoorRun R M)) (before after : Option (NetLists R L)) (counted_before counted : ℕ)
      → DoorsRan {L = L} told faults link_told link_faults auction s.address s.doors s.sessions runs before after
      → DoorsServing auction s (record { told_before = option_map (net_view told link_told link_faults dialled_told) before; told = option_map (net_view told link_told link_faults dialled_told) after; faults_before = counted_before; faults = counted })
      (map (run_seen told faults link_told link_faults auction s.sessions) runs)
  doors-serving auction s runs before after counted_before counted ran =
      let seen = run_seen told faults link_told link_faults auction s.sessions in
      let door = door_shown told faults link_told link_faults in
      let given = map-map (λ (d : DoorRun DoorShown LinkShown). d.door) seen runs ∙ sym (map-map door (λ (r : DoorRun R M). r.door) runs) in
      let back = map-map (λ (d : DoorRun DoorShown LinkShown). d.log.door) seen runs ∙ sym (map-map door (λ (r : DoorRun R M). r.log.door) runs) in
      let V : List DoorShown → List DoorShown → Type 0 = λ gs bs. IfTold (option_map (net_view told link_told link_faults dialled_told) before) (option_map (net_view told link_told link_faults dialled_told) after) (ServesAt s.address s.doors gs bs) in
      let lists : V (map door (map (λ (r : DoorRun R M). r.door) runs)) (map door (map (λ (r : DoorRun R M). r.log.door) runs)) =
      told-by (net_view told link_told link_faults dialled_told) (DoorsServed told s.address s.doors (map (λ (r : DoorRun R M). r.door) runs) (map (λ (r : DoorRun R M). r.log.door) runs))
      (ServesAt s.address s.doors (map door (map (λ (r : DoorRun R M). r.door) runs)) (map door (map (λ (r : DoorRun R M). r.log.door) runs))) before after
      (serves-at s.address s.doors (map (λ (r : DoorRun R M). r.door) runs) (map (λ (r : DoorRun R M). r.log.door) runs)) ran.lists in
      record {
        count_is = length-map runs seen ∙ ran.count_is;
        each = all-seen told faults link_told link_faults auction s.sessions runs ran.each;
        lists = subst (λ gs. V gs (map (λ (d : DoorRun DoorShown LinkShown). d.log.door) (map seen runs))) (sym given) (subst (V (map door (map (λ (r : DoorRun R M). r.door) runs))) (sym back) lists);
      }

-- the journals

-- what a file stands for that was left in the place of a disk, which was not changed where it was not claimed
left-as : (o : Option NamedFile) (claimed : Bool) (now first : Moments) → (claimed ≡ false → now ≡ first) → first ≡ unwrap_or (option_map (λ file. file.moments) o) (opened [])
    → unwrap_or (if claimed then Some now else option_map (λ _. now) o) (opened []) ≡ now
left-as o true now first quiet stood = refl
left-as None false now first quiet stood = sym (quiet refl ∙ stood)
left-as (Some file) false now first quiet stood = refl

left-moments : (name : List ℕ) (old disk : DiskShown) (before after : List NamedFile) → StandsAs name old before → IsLeftUnlessClaimed old disk → IsLeftBy name disk before after
    → moments_at after name ≡ told_moments disk
left-moments name old disk before after stands quiet left =
    ap (λ o. unwrap_or o (opened [])) left.1 ∙ left-as (file_of before name) disk.claimed (told_moments disk) (told_moments old) (λ unclaimed. quiet unclaimed left.0) stands.1

-- what holds of the moments of each disk holds of those of its journal
pub journal-moments : {D : Type 0} (shown : D → DiskShown) (journals : List ℕ) (Q : ℕ → Moments → Moments → Type 0) (old disks : List D) (a b c : Option (List NamedFile)) (R : List ℕ → Type 0) → ChangesNone a b
    → ((k : ℕ) (d : D) → k < length old → IfTells b (StandsAs (journal_name journals k) (shown (get_or old k d))))
    → ((k : ℕ) (d : D) → k < length disks → IfTells c (λ after. IfWasTold b (λ before. IsLeftBy (journal_name journals k) (shown (get_or disks k d)) before after))) → length disks ≡ length old
    → Keeps R b c → ((k : ℕ) (d : D) → k < length old → IsLeftUnlessClaimed (shown (get_or old k d)) (shown (get_or disks k d)))
    → ((k : ℕ) (d : D) → k < length old → IsTrue (is_told (shown (get_or disks k d))) → Q k (told_moments (shown (get_or old k d))) (told_moments (shown (get_or disks k d))))
    → IfTells c (λ after. IfWasTold a (λ before. (k : ℕ) → k < length old → Q k (moments_at before (journal_name journals k)) (moments_at after (journal_name journals k))))
journal-moments shown journals Q old disks a b None R none stand left same kept quiet holds = tt
journal-moments shown journals Q old disks a None (Some c) R none stand left same kept quiet holds = absurd kept
journal-moments shown journals Q old disks a (Some b) (Some c) R none stand left same kept quiet holds =
    let P : Option (List NamedFile) → Type 0 = λ o. IfWasTold o (λ before. (k : ℕ) → k < length old → Q k (moments_at before (journal_name journals k)) (moments_at c (journal_name journals k))) in
    subst P (sym none) each
  where
    each : (k : ℕ) → k < length old → Q k (moments_at b (journal_name journals k)) (moments_at c (journal_name journals k))
    each k below =
        let d = some-of old k below in
        let here = stand k d below in
        let there = left k d (omega arith) in
        let now : told_moments (shown (get_or disks k d)) ≡ moments_at c (journal_name journals k) =
        sym (left-moments (journal_name journals k) (shown (get_or old k d)) (shown (get_or disks k d)) b c here (quiet k d below) there) in
        subst (λ (m : Moments). Q k m (moments_at c (journal_name journals k))) here.1 (subst (λ (m : Moments). Q k (told_moments (shown (get_or old k d))) m) now (holds k d below there.0))

pub below-all : (journals : List ℕ) (n m : ℕ) (name : List ℕ) → n ≤ m → IsJournalBelow journals n name → IsJournalBelow journals m name
below-all journals n m name more b = (b.0, (let l = b.1 in omega arith), b.2)

-- nothing was done: out of memory
pub none-served : (value : Auction) (journals : List ℕ) (s : Serving) (files : Option (List NamedFile)) (counts : List ℕ → ℕ) (names : List (List ℕ)) (told : Option NetView) (counted : ℕ)
    → JournalsNotServed value journals s (between files files counts counts names names) (record { told_before = told; told = told; faults_before = counted; faults = counted }) how.NoMemory
none-served value journals s files counts names told counted = record {
  keeps = record {
    others = keeps-itself (IsJournalBelow journals (value.terms.bidders + 1)) files;
    counts = record { later = λ s. omega arith; others = λ s not. refl };
    front = 0;
    few = omega arith;
    names = refl;
  };
  not = record {
    left = same files;
    net_is = told-same (LeavesNetAt s.address s.doors) told (λ x. inl refl);
    cause = inr (inr (inr (record { end_is = refl; steady = refl })));
  };
}
  where
    same : (o : Option (List NamedFile)) → IfTells o (λ after. IfWasTold o (λ before. (k : ℕ) → k ≤ value.terms.bidders → LeavesJournal (owner_of value.terms k value.digest) (moments_at before (journal_name journals k)) (moments_at after (journal_name journals k))))
    same None = tt
    same (Some files) = λ k few. inl (inl refl)

-- the journals were not all opened
pub none-opened : (fault : OpenFault) (value : Auction) (journals : List ℕ) (s : Serving) (clock : ℕ) (shelf : ShelfSeen) (told : Option NetView) (counted : ℕ) → AreNotOpen journals (value.terms.bidders + 1) clock fault shelf
    → JournalsNotServed value journals s shelf (record { told_before = told; told = told; faults_before = counted; faults = counted }) (end_at clock fault)
none-opened fault value journals s clock shelf told counted not = record {
  keeps = record {
    others = keeps-then (IsJournalBelow journals clock) (λ s. ⊥) (IsJournalBelow journals n) shelf.files_before shelf.files shelf.files (λ s b. below-all journals clock n s (let w = not.within in omega arith) b) (λ s b. absurd b) not.others (keeps-itself (λ s. ⊥) shelf.files);
    counts = counts fault not.cause;
    front = not.front;
    few = not.few;
    names = not.names;
  };
  not = record {
    left = left shelf.files_before shelf.files not.moments;
    net_is = told-same (LeavesNetAt s.address s.doors) told (λ x. inl refl);
    cause = cause fault not.cause;
  };
}
  where
    n : ℕ
    n = value.terms.bidders + 1

    counts : (w : OpenFault) → IsNotOpened shelf journals clock w → RisesAmong (IsJournalBelow journals (value.terms.bidders + 1)) shelf.faults_before shelf.faults
    counts why.DiskFault failed = record { later = failed.counts.later; others = λ s other. failed.counts.others s (λ e. other (clock, (let w = not.within in w), e)) }
    counts why.NoMemory steady = record { later = λ s. (let e = steady s in omega arith); others = λ s other. steady s }
    counts (why.Broken broken) no_such = absurd no_such
    counts (why.NotAcceptable number judgement) no_such = absurd no_such

    left : (a c : Option (List NamedFile)) → KeepsMoments a c
        → IfTells c (λ after. IfWasTold a (λ before. (k : ℕ) → k ≤ value.terms.bidders → LeavesJournal (owner_of value.terms k value.digest) (moments_at before (journal_name journals k)) (moments_at after (journal_name journals k))))
    left a None kept = tt
    left None (Some c) kept = absurd kept
    left (Some a) (Some c) kept = λ k few. inl (inl (ap (λ o. unwrap_or o (opened [])) (kept (journal_name journals k))))

    cause : (w : OpenFault) → IsNotOpened shelf journals clock w → NotServing value journals shelf (record { told_before = told; told = told; faults_before = counted; faults = counted }) (end_at clock w)
    cause why.DiskFault failed = inl (record { clock = clock; end_is = refl; within = let w = not.within in omega arith; failed = failed.failed; untouched = (refl, refl) })
    cause why.NoMemory steady = inr (inr (inr (record { end_is = refl; steady = refl })))
    cause (why.Broken broken) no_such = absurd no_such
    cause (why.NotAcceptable number judgement) no_such = absurd no_such

-- they were opened, and given back
module _ {D : Type 0} (shown : D → DiskShown) (journals : List ℕ) (old disks : List D) (shelf : ShelfSeen) (files : Option (List NamedFile)) (counts : List ℕ → ℕ) (names : List (List ℕ)) where
  pub keeps-journals : (n : ℕ) → length old ≡ n → length disks ≡ length old → AreOpen shown journals old (between shelf.files_before files shelf.faults_before counts shelf.opened_before names)
      → AreGivenBack shown journals disks (between files shelf.files counts shelf.faults names shelf.opened) → KeepsJournals journals n shelf
  keeps-journals n long same are given = record {
    others = keeps-then (λ s. ⊥) (IsJournalBelow journals (length disks)) (IsJournalBelow journals n) shelf.files_before files shelf.files (λ s b. absurd b)
        (λ s b. below-all journals (length disks) n s (omega arith) b) (keeps-none (λ s. ⊥) shelf.files_before files are.same) given.others;
    counts = record {
      later = λ s. let e = are.steady s in let l = given.counts.later s in omega arith;
      others = λ s other. given.counts.others s (λ b. other (below-all journals (length disks) n s (omega arith) b)) ∙ are.steady s;
    };
    front = n;
    few = omega arith;
    names = given.names ∙ are.names ∙ ap (λ k. with_names (first_journals journals k) shelf.opened_before) long;
  }

  -- the faults of a disk are added to the count of its journal, and they are no fewer than its marks
  pub journal-failed : (k : ℕ) (d : D) (marks : ℕ) → k < length old → length disks ≡ length old → AreOpen shown journals old (between shelf.files_before files shelf.faults_before counts shelf.opened_before names)
      → AreGivenBack shown journals disks (between files shelf.files counts shelf.faults names shelf.opened) → min marks (2 ^ 64 - 1) ≤ (shown (get_or disks k d)).faults → raised_by (shelf.faults_before (journal_name journals k)) marks ≤ shelf.faults (journal_name journals k)
  journal-failed k d marks below same are given few =
      let a = given.added k d (omega arith) in
      let e = are.steady (journal_name journals k) in
      omega arith

  -- the count of a disk is that of its journal
  pub journal-rose : (k : ℕ) (d : D) → k < length old → length disks ≡ length old → AreOpen shown journals old (between shelf.files_before files shelf.faults_before counts shelf.opened_before names)
      → AreGivenBack shown journals disks (between files shelf.files counts shelf.faults names shelf.opened) → (shown (get_or old k d)).faults ≡ 0 → Rose (shown (get_or old k d)).faults (shown (get_or disks k d)).faults → FailedAt shelf (journal_name journals k)
  journal-rose k d below same are given fresh rose =
      let a = given.added k d (omega arith) in
      let e = are.steady (journal_name journals k) in
      omega arith

pub not-both : {b : Bool} → b ≡ false → IsTrue b → ⊥
not-both off on = true≢false (sym on ∙ off)

pub tells-map : (a c : Option (List NamedFile)) (P Q : List NamedFile → List NamedFile → Type 0) → ((x y : List NamedFile) → P x y → Q x y) → IfTells c (λ after. IfWasTold a (λ before. P before after)) → IfTells c (λ after. IfWasTold a (λ before. Q before after))
tells-map a None P Q of told = tt
tells-map None (Some c) P Q of told = absurd told
tells-map (Some a) (Some c) P Q of told = of a c told

-- what was found of a file that a disk stood for
pub told-content : {D : Type 0} (shown : D → DiskShown) (name : List ℕ) (Q : List ℕ → Type 0) (old new : D) (a b c : Option (List NamedFile)) → ChangesNone a b
    → IfTells b (StandsAs name (shown old)) → IfTells c (λ after. IfWasTold b (λ before. IsLeftBy name (shown new) before after)) → (IsTrue (is_told (shown new)) → Q (told_moments (shown old)).now.read)
    → IfTells (told_first a c) (λ files. Q (content files name))
told-content shown name Q old new a b None none stand left holds = tt
told-content shown name Q old new a None (Some c) none stand left holds = absurd left
told-content shown name Q old new a (Some b) (Some c) none stand left holds =
    let P : Option (List NamedFile) → Type 0 = λ o. IfTells o (λ files. Q (content files name)) in
    let read : content b name ≡ (told_moments (shown old)).now.read = content-now (file_of b name) ∙ ap (λ (m : Moments). m.now.read) (sym stand.1) in
    let here : P (Some b) = subst Q (sym read) (holds left.0) in
    subst P (sym none) here

pub reads-opening : (owner : Owner) (file : List ℕ) (fault : OpenFault) → IsRefusal fault → ReadsClock owner file (Err fault) → IsOpening owner file (Err fault)
reads-opening owner file (why.Broken broken) refusal reads = reads
reads-opening owner file (why.NotAcceptable number judgement) refusal reads = reads
reads-opening owner file why.DiskFault refusal reads = absurd refusal
reads-opening owner file why.NoMemory refusal reads = absurd refusal

module _ {D : Type 0} (shown : D → DiskShown) (terms : Terms) (digest journals : List ℕ) (old disks : List D) (shelf : ShelfSeen) (files : Option (List NamedFile)) (counts : List ℕ → ℕ) (names : List (List ℕ))
    (are : AreOpen shown journals old (between shelf.files_before files shelf.faults_before counts shelf.opened_before names))
    (given : AreGivenBack shown journals disks (between files shelf.files counts shelf.faults names shelf.opened)) where
  abbrev first-files : Option (List NamedFile)
  first-files = told_first shelf.files_before shelf.files

  -- the history of a clock before one that was refused
  earlier-of : (clock : ℕ) (fault : OpenFault) → IsNotOpen shown terms digest old disks clock fault → (n : ℕ) → n < clock → OneRead first-files terms digest journals n
  earlier-of clock fault not n few =
      let w = not.within in
      let d = some-of old n (omega arith) in
      let was = not.before n d (omega arith) in
      let history = was.first.state.clock in
      let owner = owner_of terms n digest in
      record {
        history = history;
        read = record {
          history = was.opens.history;
          in_file = told-content shown (journal_name journals n) (λ file. StandsForHistory owner history file) (get_or old n d) (get_or disks n d) shelf.files_before files shelf.files
              are.same (are.stand n d (omega arith)) (given.left n d (let c = not.count in omega arith)) (λ told. was.opens.read (was-told shown owner (get_or old n d) (get_or disks n d) was told));
        };
      }

  pub first-refused : (clock : ℕ) (fault : OpenFault) → IsNotOpen shown terms digest old disks clock fault → IsRefusal fault → IsFirstRefused first-files terms digest journals clock fault
  first-refused clock fault not refusal =
      let before = first-read first-files terms digest journals clock (earlier-of clock fault not) in
      let w = not.within in
      let d = some-of old clock w in
      record {
        earlier = before.found;
        from_journals = before.are;
        refused = record {
          refusal = refusal;
          in_file = told-content shown (journal_name journals clock) (λ file. IsOpening (owner_of terms clock digest) file (Err fault)) (get_or old clock d) (get_or disks clock d) shelf.files_before files shelf.files
              are.same (are.stand clock d w) (given.left clock d (let c = not.count in omega arith)) (λ told. reads-opening (owner_of terms clock digest) (told_moments (shown (get_or old clock d))).now.read fault refusal ((not.refused d).refused told));
        };
      }

module _ {D R L M : Type 0} (shown : D → DiskShown) (told : R → Option (DoorLinks M)) (faults : R → ℕ) (link_told : M → Option LinkBytes) (link_faults : M → ℕ) (dialled_told : L → Option LinkBytes) where
  abbrev seen-net : Option (NetLists R L) → Option (NetLists R L) → ℕ → ℕ → NetSeen
  seen-net before after counted_before counted = record { told_before = option_map (net_view told link_told link_faults dialled_told) before; told = option_map (net_view told link_told link_faults dialled_told) after; faults_before = counted_before; faults = counted }

  abbrev closed-on : Auction → Serving → List D → List D → Result Hosted Ended → Option (NetLists R L) → Option (NetLists R L) → ℕ → ℕ → Type 0
  closed-on value s old disks answer before after counted_before counted = IsHosted {L = L} shown told faults link_told link_faults value s.address s.doors s.sessions old disks answer before after counted_before counted

  module _ (value : Auction) (journals : List ℕ) (s : Serving) (old disks : List D) (shelf : ShelfSeen) (files : Option (List NamedFile)) (counts : List ℕ → ℕ) (names : List (List ℕ)) (before after : Option (NetLists R L)) (counted_before counted : ℕ)
      (long : length old ≡ value.terms.bidders + 1)
      (are : AreOpen shown journals old (between shelf.files_before files shelf.faults_before counts shelf.opened_before names))
      (given : AreGivenBack shown journals disks (between files shelf.files counts shelf.faults names shelf.opened)) where
    -- the auction was served
    were-served : (answer : Result Hosted Ended) → closed-on value s old disks answer before after counted_before counted → JournalsServed value journals s shelf (seen-net before after counted_before counted) answer
    were-served answer is =
        let seen = run_seen told faults link_told link_faults value s.sessions in
        let Q : ℕ → Moments → Moments → Type 0 = λ k m n. (c : ClockRun) → IsJournalRun (owner_of value.terms k value.digest) (get_or is.clocks k c) m n in
        record {
          keeps = keeps-journals shown journals old disks shelf files counts names (value.terms.bidders + 1) long is.disks_count are given;
          clocks = is.clocks;
          doors = map seen is.runs;
          served = record {
            ran = record {
              count_is = is.count_is ∙ long;
              clocks_are = is.clocks_are;
              marks = λ k c below.
                  let d = some-of old k (let e = is.count_is in omega arith) in
                  journal-failed shown journals old disks shelf files counts names k d (marks_in (get_or is.clocks k c).closed.history) (let e = is.count_is in omega arith) is.disks_count are given (is.marks k c d below);
              journals_are =
                  tells-map shelf.files_before shelf.files (λ x y. (k : ℕ) → k < length old → Q k (moments_at x (journal_name journals k)) (moments_at y (journal_name journals k)))
                  (λ x y. (k : ℕ) (c : ClockRun) → k < length is.clocks → IsJournalRun (owner_of value.terms k value.digest) (get_or is.clocks k c) (moments_at x (journal_name journals k)) (moments_at y (journal_name journals k)))
                  (λ x y all k c below. all k (let e = is.count_is in omega arith) c)
                  (journal-moments shown journals Q old disks shelf.files_before files shelf.files (IsJournalBelow journals (length disks)) are.same are.stand given.left is.disks_count given.others
                  (λ k d below unclaimed. absurd (let claimed = is.claimed k d (let e = is.count_is in omega arith) in not-both unclaimed claimed))
                  (λ k d below told_now c. is.journals_are k c d (let e = is.count_is in omega arith) told_now));
            };
            new = begin-seen told faults link_told link_faults dialled_told s.sessions value is.clocks is.runs is.new;
            serving = doors-serving told faults link_told link_faults dialled_told value s is.runs before after counted_before counted is.ran;
            joins = λ k c below.
                subst (λ turns. Joins (get_or is.clocks k c).opening (get_or is.clocks k c).closed.history turns k) (sym (turns-seen told faults link_told link_faults value s.sessions is.runs)) (is.joins k c below);
          };
          answer_is = answer-seen told faults link_told link_faults dialled_told answer s.sessions value (map (λ (c : ClockRun). c.closed.clock) is.clocks) is.runs counted_before counted is.answer_is;
        }

    leaves : (owner : Owner) (x y : D) → IsTrue (is_told (shown y)) → LeavesDisk shown owner x y → LeavesJournal owner (told_moments (shown x)) (told_moments (shown y))
    leaves owner x y told_now (inl left) = inl (left told_now)
    leaves owner x y told_now (inr (run, is, unused, journal)) = inr (run, is, unused, journal told_now)

    untouched : IsSameNet before after counted_before counted → IsNetUntouched (seen-net before after counted_before counted)
    untouched same = (ap (option_map (net_view told link_told link_faults dialled_told)) same.told_same, same.counted_same)

    why-not : (end : Ended) → HostEnd {N = NetLists R L} shown value.terms value.digest old disks before after counted_before counted end → NotServing value journals shelf (seen-net before after counted_before counted) end
    why-not end (inl failed) =
        let not = failed.not_open in
        let d = some-of old failed.clock not.within in
        let rose = (not.refused d).counts in
        inl (record {
          clock = failed.clock;
          end_is = failed.end_is;
          within = let w = not.within in omega arith;
          failed = journal-rose shown journals old disks shelf files counts names failed.clock d not.within not.count are given (All-from_recursion (λ (x : D). IsFresh (shown x)) old are.fresh failed.clock d not.within).faults rose.1;
          untouched = untouched failed.same;
        })
    why-not end (inr (inl refused)) =
        let not = refused.not_open in
        inr (inl (record {
          clock = refused.clock;
          fault = refused.fault;
          end_is = refused.end_is;
          within = let w = not.within in omega arith;
          first = first-refused shown value.terms value.digest journals old disks shelf files counts names are given refused.clock refused.fault not refused.refusal;
          untouched = untouched refused.same;
        }))
    why-not end (inr (inr cause)) = inr (inr cause)

    -- it was not
    were-not-served : (end : Ended) → IsUnhosted {L = L} shown told faults link_told link_faults value s.address s.doors s.sessions old disks end before after counted_before counted
        → JournalsNotServed value journals s shelf (seen-net before after counted_before counted) end
    were-not-served end is = record {
      keeps = keeps-journals shown journals old disks shelf files counts names (value.terms.bidders + 1) long is.disks_count are given;
      not = record {
        left =
            tells-map shelf.files_before shelf.files (λ x y. (k : ℕ) → k < length old → LeavesJournal (owner_of value.terms k value.digest) (moments_at x (journal_name journals k)) (moments_at y (journal_name journals k)))
            (λ x y. (k : ℕ) → k ≤ value.terms.bidders → LeavesJournal (owner_of value.terms k value.digest) (moments_at x (journal_name journals k)) (moments_at y (journal_name journals k)))
            (λ x y all k few. all k (omega arith))
            (journal-moments shown journals (λ k m n. LeavesJournal (owner_of value.terms k value.digest) m n) old disks shelf.files_before files shelf.files (IsJournalBelow journals (length disks)) are.same
            are.stand given.left is.disks_count given.others is.unclaimed (λ k d below told_now. leaves (owner_of value.terms k value.digest) (get_or old k d) (get_or disks k d) told_now (is.left k d below)));
        net_is = told-by (net_view told link_told link_faults dialled_told) (LeavesNet told s.address s.doors) (LeavesNetAt s.address s.doors) before after (leaves-at told faults link_told link_faults dialled_told s.address s.doors) is.net_is;
        cause = why-not end is.cause;
      };
    }

    pub served-journals : (answer : Result Hosted Ended) → HostOutcome {L = L} shown told faults link_told link_faults value s.address s.doors s.sessions old answer disks before after counted_before counted
        → ServesJournals value journals s shelf (seen-net before after counted_before counted) answer
    served-journals (Ok hosted) is = were-served (Ok hosted) is
    served-journals (Err end) (inl is) = inl (were-served (Err end) is)
    served-journals (Err end) (inr is) = inr (were-not-served end is)
