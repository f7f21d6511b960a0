use Rattle.auction_file.proofs.reader.file_digest.Goals as goal

pub returns : goal.returns
returns c = c.digest.ensures
