use Rattle.soc_top.proofs.Endings.{alone_short, run_short, check_short, generate_short}
use Rattle.soc_top.proofs.top.compsoc.Goals as goal

-- without memory for the request, status 7 is what the request's own call may answer
pub returns-in-Err-NoMemory-clause-alone : goal.returns-in-Err-NoMemory-clause-alone
returns-in-Err-NoMemory-clause-alone g c = λ request _. alone_short _ request c.write_fault.ensures.line

pub returns-in-Err-NoMemory-clause-run : goal.returns-in-Err-NoMemory-clause-run
returns-in-Err-NoMemory-clause-run g c = λ request _. run_short _ request c.write_fault.ensures.line

pub returns-in-Err-NoMemory-clause-check : goal.returns-in-Err-NoMemory-clause-check
returns-in-Err-NoMemory-clause-check g c = λ request _. check_short _ request c.write_fault.ensures.line

pub returns-in-Err-NoMemory-clause-generate : goal.returns-in-Err-NoMemory-clause-generate
returns-in-Err-NoMemory-clause-generate g c = λ number _. generate_short _ _ _ _ number c.write_fault.ensures.line
