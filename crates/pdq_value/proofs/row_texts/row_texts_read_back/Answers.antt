use Rattle.pdq_value.proofs.RowReading.{row_read-row_text}
use Rattle.pdq_value.proofs.RowRoundTrips.{rows_are_read_back}
use Rattle.pdq_value.proofs.row_texts.row_texts_read_back.Goals as goal

pub returns : goal.returns
returns c = record { law = rows_are_read_back; cells = row_read-row_text }
