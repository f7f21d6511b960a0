use Rattle.report_log.proofs.WrittenLogs.{whole-log, back-log, faulty-log, fault-here}
use Rattle.report_log.proofs.laws.walk_law.Goals as goal

pub returns-clause-whole : goal.returns-clause-whole
returns-clause-whole c = λ terms bytes history are e. whole-log terms bytes history are e

pub returns-clause-back : goal.returns-clause-back
returns-clause-back c = λ terms bytes history is. back-log terms bytes history is

pub returns-clause-faulty : goal.returns-clause-faulty
returns-clause-faulty c = λ terms bytes place are e. faulty-log terms bytes place are e

pub returns-clause-fault_back : goal.returns-clause-fault_back
returns-clause-fault_back c = λ terms bytes place are faulty. fault-here terms bytes place are faulty
