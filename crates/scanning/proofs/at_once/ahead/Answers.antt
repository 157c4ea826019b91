-- `scanning::at_once::ahead` meets its contract, phase by phase.
use Rattle.framing.specs.Heads.{framing_of}
use Rattle.scanning.proofs.WordsRead.{ahead-fresh, left_outside, ahead_hunting}
use Rattle.scanning.proofs.at_once.ahead.Goals as goal

pub returns-in-0 : goal.returns-in-0
returns-in-0 c = ahead-fresh (framing_of c.args.head c.args.bits.now) c.requires c.in-0.is c.ones_ahead.ensures

pub hunt-requires : goal.hunt-requires
hunt-requires c = (c.if-head-gt5.false, left_outside (framing_of c.args.head c.args.bits.now) c.requires c.in-1.is)

pub returns-in-1 : goal.returns-in-1
returns-in-1 c = ahead_hunting c.args.head _ c.args.bits.now c.requires c.in-1.is c.hunt.ensures
