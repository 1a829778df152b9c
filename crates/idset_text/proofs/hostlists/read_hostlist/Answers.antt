use Rattle.idset_text.proofs.HostGrammar.{hosts_found_by, hosts_only_by}
use Rattle.idset_text.proofs.hostlists.read_hostlist.Goals as goal

pub returns-clause-found : goal.returns-clause-found
returns-clause-found c = hosts_found_by c.args.text.now c.read.result c.read.ensures

pub returns-clause-only : goal.returns-clause-only
returns-clause-only c = λ hosts is. hosts_only_by c.args.text.now c.read.result hosts c.read.ensures is
