use Rattle.names.proofs.OneReading.{one_reading}
use Rattle.names.proofs.theorems.one_answer_of_reading_names.Goals as goal

pub returns : goal.returns
returns c = one_reading
