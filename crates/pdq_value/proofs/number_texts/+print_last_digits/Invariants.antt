use Rattle.pdq_value.proofs.number_texts.+print_last_digits.Given as goal

abbrev pub decreases-print_last_digits : goal.decreases-print_last_digits
decreases-print_last_digits l = l.count
