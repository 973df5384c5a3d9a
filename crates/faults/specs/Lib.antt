pub mod FaultAt
