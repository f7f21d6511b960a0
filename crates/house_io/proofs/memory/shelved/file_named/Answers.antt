use Rattle.house_io.proofs.Shelving.{found-at, found-none, bytes_of-shown}
use Rattle.house_io.proofs.memory.shelved.file_named.Goals as goal

pub returns-in-Some-clause-found : goal.returns-in-Some-clause-found
returns-in-Some-clause-found g c = found-at c.in-Some.ensures c.index-files-place.is

pub returns-in-None-clause-found : goal.returns-in-None-clause-found
returns-in-None-clause-found g c = found-none _ _ c.in-None.ensures

pub returns-in-Some-clause-shown : goal.returns-in-Some-clause-shown
returns-in-Some-clause-shown g c = bytes_of-shown c.args.files.now c.args.name.now (returns-in-Some-clause-found g c)

pub returns-in-None-clause-shown : goal.returns-in-None-clause-shown
returns-in-None-clause-shown g c = bytes_of-shown c.args.files.now c.args.name.now (returns-in-None-clause-found g c)
