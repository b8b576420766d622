use Rattle.ask_code.proofs.AskLaws.{IsRead, fault_had, found, has_fault}
use Rattle.ask_code.proofs.coding.decode_ask.Goals as goal

pub returns-clause-found : goal.returns-clause-found
returns-clause-found c =
    let read : IsRead c.args.bytes.now c.read_ask.result = record { good = c.read_ask.ensures.good; spelled = c.read_ask.ensures.spelled; fault = c.read_ask.ensures.fault } in
    found c.args.bytes.now c.read_ask.result read

pub returns-clause-fault : goal.returns-clause-fault
returns-clause-fault c fault =
    let read : IsRead c.args.bytes.now c.read_ask.result = record { good = c.read_ask.ensures.good; spelled = c.read_ask.ensures.spelled; fault = c.read_ask.ensures.fault } in
    (fault_had c.args.bytes.now c.read_ask.result read fault, has_fault c.args.bytes.now c.read_ask.result read fault)
