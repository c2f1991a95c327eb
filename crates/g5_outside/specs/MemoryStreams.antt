-- What is seen of a source and a sink in memory.
use Rattle.std.specs.Prelude.{ℕ, drop}
use Rattle.g5_outside.specs.Views.{SourceView, SinkView}
use Rattle.g5_outside.specs.Streams.{told_source, told_sink}
use Rattle.g5_outside.specs.Plans.{Plan, plan_of, step_of}
use Rattle.g5_outside.specs.BoundedTexts.{text_in, room_in}
use Rattle.g5_outside.specs.declared.memory_streams.MemorySource.{MemorySource}
use Rattle.g5_outside.specs.declared.memory_streams.MemorySink.{MemorySink}

abbrev pub source_view : MemorySource → SourceView
source_view s = told_source (drop s.at s.bytes.items) s.faults

abbrev pub source_plan : MemorySource → Plan
source_plan s = plan_of s.calls

-- the most bytes that one read moves
abbrev pub source_step : MemorySource → ℕ
source_step s = step_of s.calls

abbrev pub sink_view : MemorySink → SinkView
sink_view s = told_sink (text_in s.text) s.faults

abbrev pub sink_plan : MemorySink → Plan
sink_plan s = plan_of s.calls

-- the most bytes that one write moves
abbrev pub sink_step : MemorySink → ℕ
sink_step s = step_of s.calls

abbrev pub sink_room : MemorySink → ℕ
sink_room s = room_in s.text
