-- Which parts of a house may move between threads.
use denote.RattleType.{RattleType}
use denote.Param.Send.{IsSend, IsSync, sendable, view_send, view_sync, recorded_send, recorded_sync, struct_send, struct_sync}
use denote.Struct.Declared.{shape}
use Rattle.std.proofs.Crossing.{crosses, Vec-send, Vec-sync}
use Rattle.house_io.specs.declared.disk.Disk.{Ghosts}
use Rattle.clock_book.specs.contracts.entries.Entry as entry
use Rattle.clock_book.specs.contracts.origins.Origin as origin
use Rattle.clock_book.proofs.Sending.{clock_book-send}
use Rattle.clock_family.specs.contracts.house_books.HouseBook as book
use Rattle.clock_family.specs.contracts.closing.Closing as closing
use Rattle.clock_family.specs.contracts.closing.Closing.TheInside as inside_closing
use Rattle.clock_family.specs.contracts.houses.House as house
use Rattle.clock_family.specs.contracts.houses.House.TheInside as inside_house
use Rattle.clock_family.specs.contracts.houses.HousePass as house_pass
use Rattle.clock_family.specs.contracts.passes.ClockPass as clock_pass
use Rattle.clock_family.specs.contracts.passes.ClockPass.TheInside as inside_clock_pass
use Rattle.clock_family.specs.contracts.houses.HousePass.TheInside as inside_pass
use Rattle.clock_family.specs.contracts.house_books.HouseBookBook.TheImpl as impl
use Rattle.turn_desk.specs.contracts.desk.Pass as pass
use Rattle.turn_desk.specs.contracts.desk.Desk as desk
use Rattle.turn_desk.proofs.desk.Desk.TheSendSync as desks
use Rattle.turn_desk.proofs.desk.Pass.TheSendSync as passes

pub book-send : (D : RattleType) (G : Ghosts D.Denot) → IsSend D → IsSend (book.the_row D G)
book-send D G s = let b = clock_book-send D G s in search (sendable, crosses) depth 40

pub pass-send : (D : RattleType) (G : Ghosts D.Denot) → IsSend D → IsSend (pass.the_row (book.the_row D G) entry.the_row origin.the_row (impl.ghosts D G impl.no_dict))
pass-send D G s = let b = book-send D G s in search (sendable, crosses, passes.the_send) depth 40

pub desk-send : (D : RattleType) (G : Ghosts D.Denot) → IsSend D → IsSend (desk.the_row (book.the_row D G) entry.the_row origin.the_row (impl.ghosts D G impl.no_dict))
desk-send D G s = let b = book-send D G s in search (sendable, crosses, desks.the_send) depth 40

pub desk-sync : (D : RattleType) (G : Ghosts D.Denot) → IsSend D → IsSync (desk.the_row (book.the_row D G) entry.the_row origin.the_row (impl.ghosts D G impl.no_dict))
desk-sync D G s = let b = book-send D G s in search (sendable, crosses, desks.the_sync) depth 40

-- a list of passes, a list of such lists, a list of books and a list of desks
closing-send : (D : RattleType) (G : Ghosts D.Denot) → IsSend D → IsSend (closing.the_row D G)
closing-send D G s =
    let T = inside_closing.the_type D G in
    let passes = Vec-send _ (Vec-send _ (pass-send D G s)) in
    let books = Vec-send _ (clock_book-send D G s) in
    view_send _ _ _ _ _ (recorded_send _ _ _ T.to_one (struct_send (shape T) (search sendable, (passes, (books, tt)))))

pub house-send : (D : RattleType) (G : Ghosts D.Denot) → IsSend D → IsSend (house.the_row D G)
house-send D G s =
    let T = inside_house.the_type D G in
    view_send _ _ _ _ _ (recorded_send _ _ _ T.to_one (struct_send (shape T) (search (sendable, crosses) depth 40, (search (sendable, crosses) depth 40, (Vec-send _ (desk-send D G s), tt)))))

pub house-sync : (D : RattleType) (G : Ghosts D.Denot) → IsSend D → IsSync (house.the_row D G)
house-sync D G s =
    let T = inside_house.the_type D G in
    view_sync _ _ _ _ _ (recorded_sync _ _ _ T.to_one (struct_sync (shape T) (search (sendable, crosses) depth 40, (search (sendable, crosses) depth 40, (Vec-sync _ (desk-sync D G s), tt)))))

clock_pass-send : (D : RattleType) (G : Ghosts D.Denot) → IsSend D → IsSend (clock_pass.the_row D G)
clock_pass-send D G s =
    let T = inside_clock_pass.the_type D G in
    view_send _ _ _ _ _ (recorded_send _ _ _ T.to_one (struct_send (shape T) (pass-send D G s, (search (sendable, crosses) depth 40, tt))))

pub house_pass-send : (D : RattleType) (G : Ghosts D.Denot) → IsSend D → IsSend (house_pass.the_row D G)
house_pass-send D G s =
    let T = inside_pass.the_type D G in
    let c = closing-send D G s in
    view_send _ _ _ _ _ (recorded_send _ _ _ T.to_one (struct_send (shape T) (Vec-send _ (clock_pass-send D G s), (search (sendable, crosses) depth 40, tt))))
