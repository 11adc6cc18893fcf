use Rattle.files.proofs.OneReading.{one_reading}
use Rattle.files.proofs.theorems.one_answer_of_reading.Goals as goal

pub returns : goal.returns
returns c = one_reading
