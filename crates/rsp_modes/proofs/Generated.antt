-- What is answered to the generator's words, where no file is read.
use Rattle.std.proofs.Common.{◌≡◌, Bool, List, [], Result, refl}
use Rattle.rsp_io.specs.Seen.{SinkSeen}
use Rattle.rsp_spec.specs.Limits.{most_file_bytes}
use Rattle.rsp_words.specs.declared.form.Form.{Form}
use Rattle.rsp_modes.specs.declared.stop.Stop.{Stop}
use Rattle.rsp_modes.specs.FileAnswers.{AnswersFiles, SayingOf}
use Rattle.rsp_modes.specs.Shelves.{ShelfSeen}
use Rattle.rsp_modes.specs.Sayings.{Says}
use Rattle.rsp_modes.specs.Stops.{status_of}
use Rattle.rsp_modes.proofs.Answering.{told}

pub none_read : (form : Form) (said : SayingOf) (shelf : ShelfSeen) (sink sink' : SinkSeen) (result : Result Bool Stop) → Says form sink sink' (said []) result → AnswersFiles most_file_bytes form [] said shelf shelf sink sink' (status_of result)
none_read form said shelf sink sink' result says = told form [] said shelf shelf sink sink' [] result refl says
