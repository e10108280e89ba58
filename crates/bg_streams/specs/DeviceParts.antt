-- What contracts see of a reader as a source, and of a writer as a sink.
use Rattle.std.specs.Prelude.{ℕ, List, Option, length}
use Rattle.std.specs.declared.io.Error.{Error}
use Rattle.bg_streams.specs.declared.devices.Reading.{Reading}
use Rattle.bg_streams.specs.declared.devices.Writing.{Writing}

module _ {R : Type 0} where
  abbrev pub reader_of : Reading R → R
  reader_of source = source.reader

  -- why the reader failed last, if it did
  abbrev pub read_error_of : Reading R → Option Error
  read_error_of source = source.error

  abbrev pub given_of : Reading R → List ℕ
  given_of source = source.given.bytes

  abbrev pub ends_of : Reading R → ℕ
  ends_of source = length source.ends.bytes

  abbrev pub reads_of : Reading R → ℕ
  reads_of source = length source.reads.bytes

  abbrev pub read_failures_of : Reading R → ℕ
  read_failures_of source = length source.failures.bytes

module _ {W : Type 0} where
  abbrev pub writer_of : Writing W → W
  writer_of sink = sink.writer

  -- why the writer failed last, if it did
  abbrev pub write_error_of : Writing W → Option Error
  write_error_of sink = sink.error

  abbrev pub written_of : Writing W → List ℕ
  written_of sink = sink.written.bytes

  abbrev pub taken_of : Writing W → List ℕ
  taken_of sink = sink.taken.bytes

  abbrev pub flushes_of : Writing W → ℕ
  flushes_of sink = length sink.flushes.bytes

  abbrev pub write_failures_of : Writing W → ℕ
  write_failures_of sink = length sink.failures.bytes
