-- What a packet is in a list, and the packets that are still to be listed.
-- Assumes nothing.
use Rattle.std.specs.Prelude.{List}
use Rattle.tool_words.specs.declared.packets.Packet.{Packet}
use Rattle.tool_words.specs.declared.packets.Packets.{Packets}
use Rattle.tool_words.specs.Packets.{packets_from, Listed, listed}

-- a packet as it is listed
abbrev pub listed_as : Packet → Listed
listed_as packet = record { number = packet.number; at = packet.at; bytes = packet.bytes.now }

-- what is still to be listed
abbrev pub left : Packets → List Listed
left packets = listed packets.number packets.at (packets_from packets.at packets.script.now)
