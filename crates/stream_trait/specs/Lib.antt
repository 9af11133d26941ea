pub mod Fault
pub mod Source
pub mod Shows
pub mod Sink
pub mod MemSource
pub mod MemSink
pub mod StdSource
pub mod StdSink
