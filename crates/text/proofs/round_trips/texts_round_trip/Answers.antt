use Rattle.text.proofs.TextBack.{text_back}
use Rattle.text.proofs.TextRead.{text_fits, text_is_read}
use Rattle.text.proofs.round_trips.texts_round_trip.Goals as goal

pub returns : goal.returns
returns c = record { fits = text_fits; written_is_read = text_is_read; read_is_written = text_back }
