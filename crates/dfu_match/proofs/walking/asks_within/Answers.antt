use Rattle.dfu_match.proofs.TableLaws.{asks_told_Spread, asks_told_Vert}
use Rattle.dfu_match.proofs.walking.asks_within.Goals as goal

pub returns-in-Vert-clause-yes : goal.returns-in-Vert-clause-yes
returns-in-Vert-clause-yes c = rw c.in-Vert.is (asks_told_Vert c.in-Vert.kind c.in-Vert.count
    c.in-Vert.hold c.in-Vert.needs c.is_empty.result c.is_empty.ensures).0

pub returns-in-Vert-clause-no : goal.returns-in-Vert-clause-no
returns-in-Vert-clause-no c = rw c.in-Vert.is (asks_told_Vert c.in-Vert.kind c.in-Vert.count
    c.in-Vert.hold c.in-Vert.needs c.is_empty.result c.is_empty.ensures).1

pub returns-in-Spread-clause-yes : goal.returns-in-Spread-clause-yes
returns-in-Spread-clause-yes c = rw c.in-Spread.is (asks_told_Spread c.in-Spread.count c.in-Spread.needs
    c.is_empty-in-Spread.result c.is_empty-in-Spread.ensures).0

pub returns-in-Spread-clause-no : goal.returns-in-Spread-clause-no
returns-in-Spread-clause-no c = rw c.in-Spread.is (asks_told_Spread c.in-Spread.count c.in-Spread.needs
    c.is_empty-in-Spread.result c.is_empty-in-Spread.ensures).1
