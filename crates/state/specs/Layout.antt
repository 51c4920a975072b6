-- States and images (IMAGE): where things stand in an image, in octets from its start, as docs/LAYOUT.md has them.
use Rattle.std.specs.Prelude.{ℕ}

-- IMAGE-1, REFUSAL-8: an image has 4,096 octets.
abbrev pub image_length : ℕ
image_length = 4096

-- ---- the parts of an image

-- IMAGE-1: where the clock, the allowed flows, the places, the ports, the flows and the sessions start, and where these end.
abbrev pub clock_at : ℕ
clock_at = 0

abbrev pub allowed_at : ℕ
allowed_at = 32

abbrev pub places_at : ℕ
places_at = 64

abbrev pub ports_at : ℕ
ports_at = 128

abbrev pub flows_at : ℕ
flows_at = 256

abbrev pub sessions_at : ℕ
sessions_at = 1536

abbrev pub sessions_end : ℕ
sessions_end = 2048

-- ---- the tables: how many rows, and how many octets a row has

-- UNIT-1: up to eight ports, and up to 32 flows.
abbrev pub most_ports : ℕ
most_ports = 8

abbrev pub most_flows : ℕ
most_flows = 32

-- STATE-4: at most 16 sessions, those owed a notice included.
abbrev pub most_sessions : ℕ
most_sessions = 16

-- IMAGE-1: the octets of a row of ports, of flows, of sessions.
abbrev pub port_width : ℕ
port_width = 16

abbrev pub flow_width : ℕ
flow_width = 32

abbrev pub session_width : ℕ
session_width = 32

-- ---- the row of a port; its address is at the start

-- IMAGE-1: where its kind and its number stand.
abbrev pub port_kind_at : ℕ
port_kind_at = 6

abbrev pub port_number_at : ℕ
port_number_at = 7

-- ---- the row of a flow

-- IMAGE-1: where its number, VID, kind, port and MPs stand.
abbrev pub flow_number_at : ℕ
flow_number_at = 1

abbrev pub flow_vid_at : ℕ
flow_vid_at = 4

abbrev pub flow_kind_at : ℕ
flow_kind_at = 6

abbrev pub flow_port_at : ℕ
flow_port_at = 7

abbrev pub flow_mps_at : ℕ
flow_mps_at = 8

-- ---- the row of a session; its source is at the start, and with the flow it is the key

-- IMAGE-1: where its flow, milliseconds left, notice, level, side, count of tag octets and tag stand.
abbrev pub session_flow_at : ℕ
session_flow_at = 6

abbrev pub session_left_at : ℕ
session_left_at = 8

abbrev pub session_notice_at : ℕ
session_notice_at = 12

abbrev pub session_level_at : ℕ
session_level_at = 13

abbrev pub session_side_at : ℕ
session_side_at = 14

abbrev pub session_taglen_at : ℕ
session_taglen_at = 15

abbrev pub session_tag_at : ℕ
session_tag_at = 16
