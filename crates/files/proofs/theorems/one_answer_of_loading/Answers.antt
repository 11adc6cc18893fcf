use Rattle.files.proofs.OneLoading.{one_answer}
use Rattle.files.proofs.theorems.one_answer_of_loading.Goals as goal

pub returns : goal.returns
returns c = one_answer
