-- What doors of a house did, as a contract of a run sees it.
use Rattle.std.proofs.Common.{◌≡◌, ◌∙◌, ◌-◌, ◌++◌, ℕ, List, [], ◌∷◌, length, map, take, Option, Some, None, refl, sym, ap, subst, option_map}
use Rattle.std.specs.List.{AllByRecursion, flat_map}
use Rattle.std.proofs.lemmas.List.{length-map, map-append, take-map}
use Rattle.house_io.specs.Doors.{DoorLinks}
use Rattle.house_io.specs.Links.{LinkBytes}
use Rattle.house_io.specs.Told.{IfTold}
use Rattle.auction_file.specs.declared.listing.Auction.{Auction}
use Rattle.clock_family.specs.Houses.{HousePassOf}
use Rattle.house_serve.specs.Doors.{AreVisits, Come, DoorTells, Visit}
use Rattle.house_serve.specs.Houses.{DoorRun, IsRun, PassAllows, turns_of}
use Rattle.house_io.specs.NetsShown.{DoorShown, LinkShown, door_shown, link_shown, links_shown}

pub told-by : {A B : Type 0} (f : A → B) (P : A → A → Type 0) (Q : B → B → Type 0) (before after : Option A) → ((x y : A) → P x y → Q (f x) (f y)) → IfTold before after P → IfTold (option_map f before) (option_map f after) Q
told-by f P Q before None of told = tt
told-by f P Q None (Some y) of told = absurd told
told-by f P Q (Some x) (Some y) of told = of x y told

module _ {R L : Type 0} (told : R → Option (DoorLinks L)) (faults : R → ℕ) (link_told : L → Option LinkBytes) (link_faults : L → ℕ) (auction : Auction) (sessions : ℕ) where
  abbrev link : L → LinkShown
  link l = link_shown link_told link_faults l

  abbrev door : R → DoorShown
  door r = door_shown told faults link_told link_faults r

  abbrev visit : Visit HousePassOf L → Visit HousePassOf LinkShown
  visit v = record { came = link v.came; went = link v.went; turns = v.turns; end = v.end; now = v.now }

  abbrev pub run_seen : DoorRun R L → DoorRun DoorShown LinkShown
  run_seen r = record {
    before = r.before;
    after = r.after;
    door = door r.door;
    log = record { door = door r.log.door; ends = r.log.ends; failed = r.log.failed };
    visits = map visit r.visits;
  }

  came-seen : (vs : List (Visit HousePassOf L)) → map (λ (v : Visit HousePassOf LinkShown). v.came) (map visit vs) ≡ map link (map (λ (v : Visit HousePassOf L). v.came) vs)
  came-seen [] = refl
  came-seen (v ∷ vs) = ap (λ l. link v.came ∷ l) (came-seen vs)

  went-seen : (vs : List (Visit HousePassOf L)) → map (λ (v : Visit HousePassOf LinkShown). v.went) (map visit vs) ≡ map link (map (λ (v : Visit HousePassOf L). v.went) vs)
  went-seen [] = refl
  went-seen (v ∷ vs) = ap (λ l. link v.went ∷ l) (went-seen vs)

  ends-seen : (vs : List (Visit HousePassOf L)) → map (λ (v : Visit HousePassOf LinkShown). v.end) (map visit vs) ≡ map (λ (v : Visit HousePassOf L). v.end) vs
  ends-seen [] = refl
  ends-seen (v ∷ vs) = ap (λ l. v.end ∷ l) (ends-seen vs)

  visits-seen : (before after : HousePassOf) (vs : List (Visit HousePassOf L)) → AreVisits PassAllows link_told link_faults auction before vs after
      → AreVisits PassAllows (λ (l : LinkShown). l.told) (λ (l : LinkShown). l.faults) auction before (map visit vs) after
  visits-seen before after [] e = e
  visits-seen before after (v ∷ vs) are = (record { session = are.0.session; cause = are.0.cause; fresh = are.0.fresh }, visits-seen v.now after vs are.1)

  come-seen : (cs before after : List L) → Come PassAllows link_told link_faults auction cs before after
      → Come PassAllows (λ (l : LinkShown). l.told) (λ (l : LinkShown). l.faults) auction (map link cs) (map link before) (map link after)
  come-seen [] before after e = ap (map link) e
  come-seen (c ∷ cs) [] after come = (come.0, come-seen cs [] after come.1)
  come-seen (c ∷ cs) (l ∷ ls) after come = (ap link come.0, come-seen cs ls after come.1)

  tells-seen : (vs : List (Visit HousePassOf L)) (b a : DoorLinks L) → DoorTells PassAllows link_told link_faults auction vs b a
      → DoorTells PassAllows (λ (l : LinkShown). l.told) (λ (l : LinkShown). l.faults) auction (map visit vs) (links_shown link_told link_faults b) (links_shown link_told link_faults a)
  tells-seen vs b a tells =
      let long : length (map visit vs) ≡ length vs = length-map vs visit in
      let C : List LinkShown → Type 0 = λ cs. Come PassAllows (λ (l : LinkShown). l.told) (λ (l : LinkShown). l.faults) auction cs (map link b.to_come) (map link a.to_come) in
      record {
        come = subst C (sym (came-seen vs)) (come-seen (map (λ (v : Visit HousePassOf L). v.came) vs) b.to_come a.to_come tells.come);
        free = tells.free ∙ ap (λ n. b.free - n) (sym long);
        hung_up =
            ap (map link) tells.hung_up
            ∙ map-append link b.hung_up (take b.free (map (λ (v : Visit HousePassOf L). v.went) vs))
            ∙ ap (λ l. map link b.hung_up ++ l) (sym (take-map link b.free (map (λ (v : Visit HousePassOf L). v.went) vs)) ∙ ap (take b.free) (sym (went-seen vs)));
      }

  run-seen : (run : DoorRun R L) → IsRun told faults link_told link_faults auction sessions run
      → IsRun (λ (d : DoorShown). d.told) (λ (d : DoorShown). d.faults) (λ (l : LinkShown). l.told) (λ (l : LinkShown). l.faults) auction sessions (run_seen run)
  run-seen run is = record {
    ends = is.ends ∙ sym (ends-seen run.visits);
    held = visits-seen run.before run.after run.visits is.held;
    links = told-by (links_shown link_told link_faults) (DoorTells PassAllows link_told link_faults auction run.visits)
        (DoorTells PassAllows (λ (l : LinkShown). l.told) (λ (l : LinkShown). l.faults) auction (map visit run.visits)) (told run.door) (told run.log.door) (tells-seen run.visits) is.links;
    done = is.done;
    failed = is.failed;
  }

  pub all-seen : (runs : List (DoorRun R L)) → AllByRecursion (IsRun told faults link_told link_faults auction sessions) runs
      → AllByRecursion (IsRun (λ (d : DoorShown). d.told) (λ (d : DoorShown). d.faults) (λ (l : LinkShown). l.told) (λ (l : LinkShown). l.faults) auction sessions) (map run_seen runs)
  all-seen [] all = tt
  all-seen (r ∷ runs) all = (run-seen r all.0, all-seen runs all.1)

  turns-of : (vs : List (Visit HousePassOf L)) → flat_map (λ (v : Visit HousePassOf LinkShown). v.turns) (map visit vs) ≡ flat_map (λ (v : Visit HousePassOf L). v.turns) vs
  turns-of [] = refl
  turns-of (v ∷ vs) = ap (λ l. v.turns ++ l) (turns-of vs)

  pub turns-seen : (runs : List (DoorRun R L)) → flat_map turns_of (map run_seen runs) ≡ flat_map turns_of runs
  turns-seen [] = refl
  turns-seen (r ∷ runs) = (λ i. turns-of r.visits i ++ turns-seen runs i)
