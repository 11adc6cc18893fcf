use Rattle.sets.proofs.Walked.{walks_list_facts, walks_list_members}
use Rattle.sets.proofs.theorems.walks_give_members.Goals as goal

pub returns : goal.returns
returns c = record { facts = walks_list_facts; members = walks_list_members }
