-- The status that the program ends with, and the number of each fault of an auction file, a valuation file or a journal in its line.
use Rattle.std.specs.Prelude.{ℕ}
use Rattle.auction_file.specs.declared.faults.AuctionFault.{AuctionFault}
use Rattle.auction_file.specs.declared.faults.AuctionFault.TheVariants as fault
use Rattle.recovery.specs.declared.faults.JournalCause.{JournalCause}
use Rattle.recovery.specs.declared.faults.JournalCause.TheVariants as cause
use Rattle.clock_book.specs.declared.faults.OpenFault.{OpenFault}
use Rattle.clock_book.specs.declared.faults.OpenFault.TheVariants as why
use Rattle.valuation.specs.declared.faults.ValuesFault.{ValuesFault}
use Rattle.valuation.specs.declared.faults.ValuesFault.TheVariants as values
use Rattle.house_run.specs.declared.ends.Ended.{Ended}
use Rattle.house_run.specs.declared.ends.Ended.TheVariants as how

abbrev pub status_of : Ended → ℕ
status_of how.Done = 0
status_of how.NoMemory = 1
status_of how.Usage = 2
status_of (how.BadAuction refusal) = 3
status_of how.ReadFault = 4
status_of how.WriteFault = 5
status_of (how.DiskFault clock) = 6
status_of how.NetFault = 7
status_of (how.BadJournal clock fault) = 8
status_of (how.Open clock round missing) = 9
status_of (how.NoAward clock) = 10
status_of (how.Halted clock good) = 11
status_of (how.BadValues fault) = 12
status_of (how.NotSubstitutes bidder x y good) = 13
status_of (how.TooLong file) = 14
status_of (how.BadLog place) = 15
status_of (how.Refused code detail value) = 16
status_of (how.LooksSpent clock) = 17
status_of how.BadReply = 18
status_of (how.NoBidder bidder) = 19
status_of how.OtherTerms = 20
status_of (how.NotPrefix clock number) = 21
status_of (how.TargetFull clock needed) = 22
status_of (how.BadTarget clock fault) = 23
status_of (how.StartCount found) = 24
status_of (how.StartRange good value) = 25

-- that memory ran out has no line, and no number
abbrev pub number_of : AuctionFault → ℕ
number_of fault.NotToml = 1
number_of (fault.Missing key) = 2
number_of (fault.WrongKind key) = 3
number_of (fault.Goods refusal) = 4
number_of (fault.Bidders count) = 5
number_of (fault.BadDigest bidder) = 6
number_of (fault.Ceiling value) = 7
number_of (fault.Repeated key) = 8
number_of (fault.UnknownKey key) = 9
number_of (fault.Version value) = 10
number_of (fault.BadName key) = 11
number_of (fault.BadSupply good value) = 12
number_of (fault.Opening good value) = 13
number_of fault.NoMemory = 0

-- the number of each fault of a valuation file; that memory ran out has none
abbrev pub values_number : ValuesFault → ℕ
values_number values.NotToml = 1
values_number (values.Missing key) = 2
values_number (values.WrongKind key) = 3
values_number (values.Value bidder place) = 4
values_number (values.Length bidder found needed) = 5
values_number (values.EmptyNotZero bidder) = 6
values_number (values.Above bidder index) = 7
values_number (values.Bidders found) = 8
values_number (values.UnknownKey key) = 9
values_number (values.Form bidder) = 10
values_number values.NoMemory = 0

-- the record at which a journal is refused, 0 for its header; a fault of the disk and memory that ran out have none
abbrev pub record_of : OpenFault → ℕ
record_of (why.Broken broken) = broken.number
record_of (why.NotAcceptable number judgement) = number
record_of why.DiskFault = 0
record_of why.NoMemory = 0

abbrev pub cause_number : JournalCause → ℕ
cause_number (cause.OtherClock clock) = 1
cause_number (cause.OtherAuction digest) = 2
cause_number cause.Damaged = 3
cause_number cause.NotReport = 4
cause_number (cause.OtherVersion version) = 7
cause_number (cause.OtherOpening good) = 8

-- the number of the fault of a journal
abbrev pub refusal_number : OpenFault → ℕ
refusal_number (why.Broken broken) = cause_number broken.cause
refusal_number (why.NotAcceptable number judgement) = 6
refusal_number why.DiskFault = 0
refusal_number why.NoMemory = 0

-- how a command ends that can't read the journal of this clock
abbrev pub end_at : ℕ → OpenFault → Ended
end_at clock why.DiskFault = how.DiskFault clock
end_at clock why.NoMemory = how.NoMemory
end_at clock (why.Broken broken) = how.BadJournal clock (why.Broken broken)
end_at clock (why.NotAcceptable number judgement) = how.BadJournal clock (why.NotAcceptable number judgement)
