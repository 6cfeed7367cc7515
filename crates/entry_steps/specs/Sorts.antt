-- What the code's `Sort` means: the sort of step (docs/RULES.md, 'The steps').
use Rattle.entry_steps.specs.declared.Sort as declared
use Rattle.entry_steps.specs.declared.Sort.TheVariants.{Comb, Accumulate}
use Rattle.definitions.specs.Steps.{Sort, comb, accumulate}

abbrev pub sort_means : declared.Sort → Sort
sort_means Comb = comb
sort_means Accumulate = accumulate
