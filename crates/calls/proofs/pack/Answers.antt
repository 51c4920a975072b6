use mathlib.Core.Path.{refl}
use borrow.Author.Rules.{rules}
use Rattle.calls.specs.Answer.{packed}
use Rattle.calls.proofs.pack.Goals as goal

-- src/lib.rt:41:11
pub overflow_mul-result : goal.overflow_mul-result
overflow_mul-result c = search rules

-- src/lib.rt:40:5
pub overflow_add-result : goal.overflow_add-result
overflow_add-result c = search rules

-- src/lib.rt:42:11
pub overflow_mul-result-2 : goal.overflow_mul-result-2
overflow_mul-result-2 c = search rules

-- src/lib.rt:40:5
pub overflow_add-result-2 : goal.overflow_add-result-2
overflow_add-result-2 c = search rules

-- src/lib.rt:43:11
pub overflow_mul-result-3 : goal.overflow_mul-result-3
overflow_mul-result-3 c = search rules

-- src/lib.rt:40:5
pub overflow_add-result-3 : goal.overflow_add-result-3
overflow_add-result-3 c = search rules

-- src/lib.rt:44:11
pub overflow_mul-result-4 : goal.overflow_mul-result-4
overflow_mul-result-4 c = search rules

-- src/lib.rt:40:5
pub overflow_add-result-4 : goal.overflow_add-result-4
overflow_add-result-4 c = search rules

-- src/lib.rt:37:1
pub returns : goal.returns
unfolding packed
returns c = refl
