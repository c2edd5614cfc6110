pub mod LongLog
