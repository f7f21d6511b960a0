-- What a contract sees of the outside in one call, and what was read of it.
use Rattle.std.specs.Prelude.{◌≡◌, ◌≤◌, ◌<◌, ℕ, List, [], length, Option, Ok, unwrap_or}
use Rattle.house_io.specs.Shelves.{NamedFile, IfTells, bytes_of}
use Rattle.house_io.specs.declared.shelves.Shelf as shelves
use Rattle.house_io.specs.declared.sinks.Sink as sinks
use Rattle.lot_base.specs.declared.limits.TheConstants.{GREATEST_AUCTION, GREATEST_VALUES}
use Rattle.auction_file.specs.AuctionFile.{Listing, auction_of}
use Rattle.report_log.specs.Logs.{AreBytes}

-- the shelf of a call: its files, where they are told, the counts of faults by name, and the names that it has opened, as the
-- call began and as it ended
pub record ShelfSeen : Type 0 where
  pub files_before : Option (List NamedFile)
  pub files : Option (List NamedFile)
  pub faults_before : List ℕ → ℕ
  pub faults : List ℕ → ℕ
  pub opened_before : List (List ℕ)
  pub opened : List (List ℕ)

abbrev pub shelf_seen : {H S D : Type 0} → shelves.Ghosts H S D → H → H → ShelfSeen
shelf_seen shelf before after = record {
  files_before = shelf.files before;
  files = shelf.files after;
  faults_before = shelf.faults before;
  faults = shelf.faults after;
  opened_before = shelf.opened before;
  opened = shelf.opened after;
}

-- all of the outside that a command can reach, but for the sink
pub record Outside : Type 0 where
  pub shelf : ShelfSeen

abbrev pub outside : {H S D : Type 0} → shelves.Ghosts H S D → H → H → Outside
outside shelf before after = record { shelf = shelf_seen shelf before after }

-- the sink of a call: the bytes written, where they are told, and the count of its faults, as the call began and as it ended
pub record SinkSeen : Type 0 where
  pub written_before : Option (List ℕ)
  pub written : Option (List ℕ)
  pub faults_before : ℕ
  pub faults : ℕ

abbrev pub sink_seen : {S : Type 0} → sinks.Ghosts S → S → S → SinkSeen
sink_seen sink before after = record {
  written_before = sink.written before;
  written = sink.written after;
  faults_before = sink.faults before;
  faults = sink.faults after;
}

-- the greatest number of bytes of an auction file
abbrev pub auction_limit : ℕ
auction_limit = GREATEST_AUCTION

-- the greatest number of bytes of a file of valuations
abbrev pub values_limit : ℕ
values_limit = GREATEST_VALUES

-- the bytes of a file, none where it is absent
abbrev pub content : List NamedFile → List ℕ → List ℕ
content files name = unwrap_or (bytes_of files name) []

-- the bytes that were read of a file: all of it, where it is told, and no more than the limit
pub record IsRead (shelf : ShelfSeen) (name : List ℕ) (limit : ℕ) (read : List ℕ) : Type 0 where
  pub whole : IfTells shelf.files (λ files. read ≡ content files name)
  pub short : length read ≤ limit
  pub bytes : AreBytes read

-- the file is longer than the limit, where it is told
abbrev pub IsTooLong : ShelfSeen → List ℕ → ℕ → Type 0
IsTooLong shelf name limit = IfTells shelf.files (λ files. limit < length (content files name))

-- the auction file of this name was read, and says this
pub record IsAuctionAt (shelf : ShelfSeen) (name : List ℕ) (listing : Listing) : Type 0 where
  pub read : List ℕ
  pub is_read : IsRead shelf name auction_limit read
  pub says : auction_of read ≡ Ok listing
