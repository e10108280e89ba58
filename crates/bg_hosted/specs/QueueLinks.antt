-- What contracts see of a queue.
use Rattle.std.specs.Prelude.{[], None, Ok, length}
use Rattle.bg_protocol.specs.Devices.Handed.{noted_answer}
use Rattle.bg_protocol.specs.Worlds.Views.{LinkView}
use Rattle.bg_hosted.specs.declared.queue_links.QueueLink.{QueueLink}

-- the queue as a world sees it; which of its sends fail is not known beforehand
abbrev pub queue_view : QueueLink → LinkView
queue_view link = record {
  plan = None;
  sent = link.waiting.sent.datagrams;
  faults = length link.faults.bytes;
  takes = length link.takes.bytes;
  sends = length link.sends.bytes;
  taken = noted_answer link.taken;
}

-- nothing was sent over it, and nothing was asked of it
abbrev pub unused_queue : LinkView
unused_queue = record { plan = None; sent = []; faults = 0; takes = 0; sends = 0; taken = Ok None }
