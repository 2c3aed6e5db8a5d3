use Rattle.pdq_value.proofs.BadPlaces.{bad_numbers_are_refused}
use Rattle.pdq_value.proofs.NumberReading.{number_of_text-IsNumberText, number_of_text-number_text}
use Rattle.pdq_value.proofs.NumberReads.{large_numbers_are_refused, number_texts_are_read, number_texts_read_back}
use Rattle.pdq_value.proofs.NumberWords.{IsNumberText-number_of_text}
use Rattle.pdq_value.proofs.number_texts.number_texts_read_back.Goals as goal

pub returns : goal.returns
returns c = record {
  reading = number_texts_are_read;
  large = large_numbers_are_refused;
  bad = bad_numbers_are_refused;
  round_trip = number_texts_read_back;
  saying = λ scale text number. (IsNumberText-number_of_text scale text number, number_of_text-IsNumberText scale text number);
  wide = number_of_text-number_text;
}
