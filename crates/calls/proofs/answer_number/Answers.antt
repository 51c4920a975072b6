use borrow.Author.Rules.{rules}
use Rattle.calls.specs.Answer.{number_of, packed}
use Rattle.calls.proofs.answer_number.Goals as goal

-- src/lib.rt:24:25
pub enum_known-a : goal.enum_known-a
enum_known-a c = search rules

-- src/lib.rt:24:31
pub pack-requires : goal.pack-requires
pack-requires c = search rules

-- src/lib.rt:25:30
pub enum_told-1 : goal.enum_told-1
enum_told-1 c = search rules

-- src/lib.rt:26:28
pub enum_told-in-Dropped : goal.enum_told-in-Dropped
enum_told-in-Dropped c = search rules

-- src/lib.rt:27:24
pub enum_known-a-in-Looped-1 : goal.enum_known-a-in-Looped-1
enum_known-a-in-Looped-1 c = search rules

-- src/lib.rt:27:30
pub pack-requires-in-Looped : goal.pack-requires-in-Looped
pack-requires-in-Looped c = search rules

-- src/lib.rt:28:25
pub enum_known-a-in-Replied-1 : goal.enum_known-a-in-Replied-1
enum_known-a-in-Replied-1 c = search rules

-- src/lib.rt:28:31
pub pack-requires-in-Replied : goal.pack-requires-in-Replied
pack-requires-in-Replied c = search rules

-- src/lib.rt:29:34
pub enum_known-a-in-RepliedForwarded-1 : goal.enum_known-a-in-RepliedForwarded-1
enum_known-a-in-RepliedForwarded-1 c = search rules

-- src/lib.rt:29:40
pub pack-requires-in-RepliedForwarded : goal.pack-requires-in-RepliedForwarded
pack-requires-in-RepliedForwarded c = search rules

-- src/lib.rt:30:25
pub enum_known-a-in-Noticed-1 : goal.enum_known-a-in-Noticed-1
enum_known-a-in-Noticed-1 c = search rules

-- src/lib.rt:30:43
pub pack-requires-in-Noticed : goal.pack-requires-in-Noticed
pack-requires-in-Noticed c = search rules

-- src/lib.rt:31:25
pub enum_told-in-Done : goal.enum_told-in-Done
enum_told-in-Done c = search rules

-- src/lib.rt:32:24
pub enum_known-a-in-Faulty-1 : goal.enum_known-a-in-Faulty-1
enum_known-a-in-Faulty-1 c = search rules

-- src/lib.rt:32:41
pub pack-requires-in-Faulty : goal.pack-requires-in-Faulty
pack-requires-in-Faulty c = search rules

-- src/lib.rt:20:1
pub returns-in-Refused : goal.returns-in-Refused
unfolding number_of
returns-in-Refused c = rw c.in-Refused.is c.pack.ensures

-- src/lib.rt:20:1
pub returns-in-Forwarded : goal.returns-in-Forwarded
unfolding number_of packed
returns-in-Forwarded c = rw c.in-Forwarded.is

-- src/lib.rt:20:1
pub returns-in-Dropped : goal.returns-in-Dropped
unfolding number_of packed
returns-in-Dropped c = rw c.in-Dropped.is

-- src/lib.rt:20:1
pub returns-in-Looped : goal.returns-in-Looped
unfolding number_of
returns-in-Looped c = rw c.in-Looped.is c.pack-in-Looped.ensures

-- src/lib.rt:20:1
pub returns-in-Replied : goal.returns-in-Replied
unfolding number_of
returns-in-Replied c = rw c.in-Replied.is c.pack-in-Replied.ensures

-- src/lib.rt:20:1
pub returns-in-RepliedForwarded : goal.returns-in-RepliedForwarded
unfolding number_of
returns-in-RepliedForwarded c = rw c.in-RepliedForwarded.is c.pack-in-RepliedForwarded.ensures

-- src/lib.rt:20:1
pub returns-in-Noticed : goal.returns-in-Noticed
unfolding number_of
returns-in-Noticed c = rw c.in-Noticed.is c.pack-in-Noticed.ensures

-- src/lib.rt:20:1
pub returns-in-Done : goal.returns-in-Done
unfolding number_of packed
returns-in-Done c = rw c.in-Done.is

-- src/lib.rt:20:1
pub returns-in-Faulty : goal.returns-in-Faulty
unfolding number_of
returns-in-Faulty c = rw c.in-Faulty.is c.pack-in-Faulty.ensures
