-- A book may move between threads where its disk may.
use denote.RattleType.{RattleType}
use denote.Param.Send.{IsSend, sendable}
use Rattle.std.proofs.Crossing.{crosses}
use Rattle.house_io.specs.declared.disk.Disk.{Ghosts}
use Rattle.clock_book.specs.contracts.books.ClockBook as clock_book

pub clock_book-send : (D : RattleType) (G : Ghosts D.Denot) → IsSend D → IsSend (clock_book.the_row D G)
clock_book-send D G s = search (sendable, crosses) depth 60 fits 200000
