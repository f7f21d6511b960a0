use Rattle.std.proofs.Common.{◌≡◌, ◌∙◌, ◌≤◌, length, map, drop, sym, ap, subst, List, vec_len, vec_capacity}
use Rattle.std.proofs.lemmas.List.{take_at}
use Rattle.clock_family.specs.Houses.{AreAllOf, AreClosed, HousePassOf}
use Rattle.clock_family.specs.Turns.{AreOf}
use Rattle.house_serve.specs.Booths.{log_of}
use Rattle.house_serve.proofs.Running.{zipped, all_after, served}
use Rattle.house_serve.proofs.Seating.{all_at, of_house}
use Rattle.house_serve.proofs.houses.serve.Goals as goal

pub serve_booths-requires-clause-of_house : goal.serve_booths-requires-clause-of_house
serve_booths-requires-clause-of_house g c κs within =
    all_at (λ s. s.pass) (λ p. AreOf c.args.house.terms c.args.house.digest c.args.house.desks p.passes) c.deref_mut.result.now c.args.passes.items
    (ap (λ l. map (λ s. s.pass) l) c.deref_mut.ensures.value ∙ c.seat_all-booths.ensures.passes) (of_house c.args.house c.args.passes.items c.requires.new)

pub serve_booths-requires-clause-empty : goal.serve_booths-requires-clause-empty
serve_booths-requires-clause-empty g c κs within =
    all_at (λ s. s.ends) (λ e. (length e.items ≡ 0) × (vec_len e ≡ 0)) c.deref_mut.result.now c.in-Ok.room.notes.items
    (ap (λ l. map (λ s. s.ends) l) c.deref_mut.ensures.value ∙ c.seat_all-booths.ensures.notes) (λ k d below. let h = c.in-Ok.ensures.notes.1 k d below in (h.0, h.1))

pub serve_booths-requires-clause-room : goal.serve_booths-requires-clause-room
serve_booths-requires-clause-room g c κs within =
    all_at (λ s. s.ends) (λ e. c.args.sessions ≤ vec_capacity e) c.deref_mut.result.now c.in-Ok.room.notes.items
    (ap (λ l. map (λ s. s.ends) l) c.deref_mut.ensures.value ∙ c.seat_all-booths.ensures.notes) (λ k d below. (c.in-Ok.ensures.notes.1 k d below).2)

pub close-books-requires : goal.close-books-requires
close-books-requires g c =
    let z = zipped g.R.Door.told g.R.Door.faults g.R.Link.Link.told g.R.Link.Link.faults c.args.auction.now c.args.sessions c.deref_mut.result.now c.serve_booths.new.booths c.serve_booths.ensures.count c.serve_booths.ensures.served in
    let kept = take_at c.serve_booths.new.booths (drop (length c.serve_booths.new.booths) c.seat_all-booths.result.items) (vec_len c.seat_all-booths.result) (c.serve_booths.ensures.count ∙ c.deref_mut.ensures.len) in
    let back : c.unseat_all-passes.result.0.items ≡ map (λ s. s.pass) c.serve_booths.new.booths = c.unseat_all-passes.ensures.passes ∙ ap (λ l. map (λ s. s.pass) l) kept in
    let all = all_after g.R.Door.told g.R.Door.faults g.R.Link.Link.told g.R.Link.Link.faults c.args.auction.now c.args.sessions c.args.house c.deref_mut.result.now c.serve_booths.new.booths z c.args.passes.items
    (ap (λ l. map (λ s. s.pass) l) c.deref_mut.ensures.value ∙ c.seat_all-booths.ensures.passes) c.requires.passes in
    record { all = subst (λ (l : List HousePassOf). AreAllOf c.args.house.desks l) (sym back) all }

pub returns-clause-served : goal.returns-clause-served
returns-clause-served g c =
    let z = zipped g.R.Door.told g.R.Door.faults g.R.Link.Link.told g.R.Link.Link.faults c.args.auction.now c.args.sessions c.deref_mut.result.now c.serve_booths.new.booths c.serve_booths.ensures.count c.serve_booths.ensures.served in
    let kept = take_at c.serve_booths.new.booths (drop (length c.serve_booths.new.booths) c.seat_all-booths.result.items) (vec_len c.seat_all-booths.result) (c.serve_booths.ensures.count ∙ c.deref_mut.ensures.len) in
    let back : c.unseat_all-passes.result.0.items ≡ map (λ s. s.pass) c.serve_booths.new.booths = c.unseat_all-passes.ensures.passes ∙ ap (λ l. map (λ s. s.pass) l) kept in
    let logs : c.unseat_all-passes.result.1.items ≡ map log_of c.serve_booths.new.booths = c.unseat_all-passes.ensures.logs ∙ ap (λ l. map log_of l) kept in
    served g.R.Door.told g.R.Door.faults g.R.Link.Link.told g.R.Link.Link.faults c.args.auction.now c.args.sessions c.args.house c.deref_mut.result.now c.serve_booths.new.booths z c.args.passes.items
    (ap (λ l. map (λ s. s.pass) l) c.deref_mut.ensures.value ∙ c.seat_all-booths.ensures.passes) c.requires.passes c.args.doors.items c.close-books.result.items c.unseat_all-passes.result.1.items
    (ap (λ l. map (λ s. s.door) l) c.deref_mut.ensures.value ∙ c.seat_all-booths.ensures.doors) logs c.requires.new
    (subst (λ (l : List HousePassOf). AreClosed c.args.house.desks l c.close-books.result.items) back c.close-books.ensures.closed)
